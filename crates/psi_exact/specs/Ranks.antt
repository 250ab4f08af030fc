-- The ranks of the states of given capacities.
use Rattle.std.specs.Prelude.{◌≡◌, ℕ, ◌<◌, List, [], length, slice_index, slice_index_or}
use Rattle.std.specs.List.{position_or_len}
use Rattle.std.specs.Str.{bytes_eq}
use Rattle.psi_state.specs.State.{all_states}

-- the rank of a state: its place in the list of all states
unfoldable pub rank_of : List ℕ → List ℕ → ℕ
rank_of caps x = position_or_len (bytes_eq x) (all_states caps)

-- the state of a rank
unfoldable pub state_at : List ℕ → ℕ → List ℕ
state_at caps r = slice_index_or (all_states caps) r []

-- the list has for the rank of each state the rank of what the function makes of it
pub record AreRanksOf (caps : List ℕ) (f : List ℕ → List ℕ) (ranks : List ℕ) : Type 0 where
  pub whole : length ranks ≡ length (all_states caps)
  pub each : (r : ℕ) → r < length (all_states caps) → slice_index ranks r ≡ rank_of caps (f (state_at caps r))
