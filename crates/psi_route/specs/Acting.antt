-- What a route does to a state, place by place.
use Rattle.std.specs.Prelude.{◌≢◌, ◌⊎◌, ℕ, ◌<◌, List, slice_index}
use Rattle.psi_route.specs.Routing.{Routing, HasRoom, Lacks}

-- the best of the first n places
pub record Leads (r : Routing) (x : List ℕ) (n j : ℕ) : Type 0 where
  pub place : j < n
  pub room : HasRoom r j (slice_index x (r.queue j))
  pub others : (i : ℕ) → i < n → i ≢ j
      → Lacks r i (slice_index x (r.queue i)) ⊎ (r.key j (slice_index x (r.queue j)) < r.key i (slice_index x (r.queue i)))

-- none of the first n places has room
pub record NoRoom (r : Routing) (x : List ℕ) (n : ℕ) : Type 0 where
  pub each : (i : ℕ) → i < n → Lacks r i (slice_index x (r.queue i))
