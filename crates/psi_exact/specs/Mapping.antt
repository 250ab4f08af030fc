-- Maps of the states of given capacities.
use Rattle.std.specs.Prelude.{◌≡◌, ℕ, List, [], map, slice_index_or}
use Rattle.psi_state.specs.State.{IsBelow, all_states}
use Rattle.psi_exact.specs.Ranks.{rank_of}

-- a map of the states within these capacities: the states that they are sent to, in the order of the list of all states
pub record Mapped : Type 0 where
  pub caps : List ℕ
  pub images : List (List ℕ)

-- the map of a function on states
abbrev pub map_of : List ℕ → (List ℕ → List ℕ) → Mapped
map_of caps f = record { caps = caps; images = map f (all_states caps) }

-- the state that a state is sent to
unfoldable pub sends : Mapped → List ℕ → List ℕ
sends table x = slice_index_or table.images (rank_of table.caps x) []

-- every state within the capacities is sent to what the function makes of it
abbrev pub IsMapOf : Mapped → (List ℕ → List ℕ) → Type 0
IsMapOf table f = (x : List ℕ) → IsBelow x table.caps → sends table x ≡ f x
