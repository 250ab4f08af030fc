-- The best place that is found so far, by its key.
use Rattle.std.specs.Prelude.{◌≡◌, ◌⊎◌, ℕ, ◌+◌, ◌*◌, ◌^◌, ◌<◌, List, slice_index}
use Rattle.psi_route.specs.Routing.{Routing}
use Rattle.psi_route.specs.Acting.{Leads, NoRoom}
use Rattle.psi_route.specs.declared.keys.Leader.{Leader}

-- the weight and the place are those of the key of the best of the first n places
pub record IsLeading (r : Routing) (x : List ℕ) (n : ℕ) (leader : Leader) : Type 0 where
  pub weight : leader.weight < 2 ^ 32
  pub value : 32 * leader.weight + leader.place ≡ r.key leader.place (slice_index x (r.queue leader.place))
  pub leads : Leads r x n leader.place

-- no place of the first n has room
pub record IsUnled (r : Routing) (x : List ℕ) (n : ℕ) (leader : Leader) : Type 0 where
  pub weight : leader.weight ≡ 2 ^ 32
  pub none : NoRoom r x n

-- what is found among the first n places
abbrev pub IsLeader : Routing → List ℕ → ℕ → Leader → Type 0
IsLeader r x n leader = IsUnled r x n leader ⊎ IsLeading r x n leader
