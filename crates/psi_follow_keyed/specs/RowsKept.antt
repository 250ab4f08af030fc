-- The keys of a route's targets, one place after another.
use Rattle.std.specs.Prelude.{◌≡◌, ℕ, ◌+◌, ◌-◌, ◌*◌, ◌^◌, ◌<◌, ◌≤◌, List, length, slice_index}
use Rattle.psi_route.specs.Routing.{Shape, weight}
use Rattle.psi_follow_keyed.specs.Keys.{no_key, cap_at}

-- from this base on there are the keys of a place, for each number of customers with which it has room, and then none; no value is above 2^27 - 2
pub record IsRowFrom (s : Shape) (i base : ℕ) (entries : List ℕ) : Type 0 where
  pub inside : base + cap_at s.caps s.targets i < length entries
  pub values : (v : ℕ) → v < cap_at s.caps s.targets i → weight s i v ≤ 2 ^ 27 - 2
  pub keys : (v : ℕ) → v < cap_at s.caps s.targets i → slice_index entries (base + v) ≡ 32 * weight s i v + i
  pub full : slice_index entries (base + cap_at s.caps s.targets i) ≡ no_key

-- so it is for the first n places
pub record AreRowsOf (s : Shape) (n : ℕ) (bases entries : List ℕ) : Type 0 where
  pub each : (i : ℕ) → i < n → IsRowFrom s i (slice_index bases i) entries
