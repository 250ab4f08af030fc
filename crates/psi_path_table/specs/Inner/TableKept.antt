-- What a walk by a table keeps of its fields.
use Rattle.std.specs.Prelude.{◌≡◌, ℕ, ◌≤◌, List, length}
use Rattle.psi_state.specs.State.{all_states}

-- the number of states is that of the capacities, and each of at most 65,536 entries has a count
pub record IsKept (caps : List ℕ) (states : ℕ) (ranks counts : List ℕ) : Type 0 where
  pub all : states ≡ length (all_states caps)
  pub few : length ranks ≤ 65536
  pub counted : length counts ≡ length ranks
