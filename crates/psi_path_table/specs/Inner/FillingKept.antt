-- A list of ranks while it is filled.
use Rattle.std.specs.Prelude.{◌≡◌, ℕ, ◌+◌, ◌<◌, ◌≤◌, List, length, drop, slice_index}
use Rattle.psi_state.specs.State.{all_states}
use Rattle.psi_exact.specs.Ranks.{rank_of, state_at}

-- the second list has the ranks of what a function makes of the first states after the first list
pub record AreImagesAfter (caps : List ℕ) (f : List ℕ → List ℕ) (count : ℕ) (old new : List ℕ) : Type 0 where
  pub sized : length new ≡ length old + count
  pub kept : (i : ℕ) → i < length old → slice_index new i ≡ slice_index old i
  pub each : (r : ℕ) → r < count → slice_index new (length old + r) ≡ rank_of caps (f (state_at caps r))

-- and the other states are still to come
pub record IsFilling (caps : List ℕ) (f : List ℕ → List ℕ) (old new : List ℕ) (rest : List (List ℕ)) : Type 0 where
  pub rank : ℕ
  pub most : rank ≤ length (all_states caps)
  pub left : rest ≡ drop rank (all_states caps)
  pub done : AreImagesAfter caps f rank old new
