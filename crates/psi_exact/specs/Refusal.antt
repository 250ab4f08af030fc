-- When there is no table.
use Rattle.std.specs.Prelude.{ℕ, ◌<◌, ◌≤◌, List, length}
use Rattle.psi_state.specs.State.{all_states}
use Rattle.psi_exact.specs.declared.map_table.MapRefusal.{MapRefusal}
use Rattle.psi_exact.specs.declared.map_table.MapRefusal.TheVariants.{TooManyStates, OutOfMemory}

-- what each refusal says of the capacities: there are too many states, or there aren't and an allocation failed
abbrev pub IsMapRefusal : MapRefusal → List ℕ → Type 0
IsMapRefusal TooManyStates caps = 65536 < length (all_states caps)
IsMapRefusal OutOfMemory caps = length (all_states caps) ≤ 65536
