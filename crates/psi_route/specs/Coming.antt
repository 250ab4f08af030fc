-- How far the customers come along the list of targets.
use Rattle.std.specs.Prelude.{◌⊎◌, ℕ, ◌-◌, ◌<◌, ◌≤◌, List, slice_index, slice_set, Bool, not, ◌&&◌, ◌||◌, nat_eq, if◌then◌else◌}
use Rattle.std.specs.Bool.{MatchBool}
use Rattle.psi_route.specs.Routing.{Routing, HasRoom, Lacks}
use Rattle.psi_route.specs.declared.envelope.Coming.{Coming}

-- the customers of a route
module _ (r : Routing) where
  -- in the state x the customers come as far as place n: the source serves, and each earlier place lacks room
  pub record Comes (x : List ℕ) (n : ℕ) : Type 0 where
    pub serve : r.least ≤ slice_index x r.source
    pub before : (i : ℕ) → i < n → Lacks r i (slice_index x (r.queue i))

  -- they don't
  abbrev pub Misses : List ℕ → ℕ → Type 0
  Misses x n = (slice_index x r.source < r.least) ⊎ ((i : ℕ) × (i < n) × HasRoom r i (slice_index x (r.queue i)))

  -- whether they do at the two corners of a box
  pub record AreComing (l h : List ℕ) (n : ℕ) (coming : Coming) : Type 0 where
    pub low : MatchBool coming.always (Comes l n) (Misses l n)
    pub high : MatchBool coming.sometimes (Comes h n) (Misses h n)

  -- whether a customer leaves the source, by whether it serves and whether every target lacks room then
  abbrev pub is_gone : Bool → Bool → Bool
  is_gone serves passes = serves && (r.lost || nat_eq r.places 0 || not passes)

  -- the state x where one more has left the source, or none
  abbrev pub without : Bool → List ℕ → List ℕ
  without gone x = slice_set x r.source (slice_index x r.source - (if gone then 1 else 0))
