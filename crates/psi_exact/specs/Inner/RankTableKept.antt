-- A map of states kept as a table of ranks.
use Rattle.std.specs.Prelude.{◌≡◌, ℕ, ◌<◌, ◌≤◌, List, length, map, slice_index, Option}
use Rattle.psi_state.specs.State.{all_states}
use Rattle.psi_rate.specs.Composition.{Functions, compose}
use Rattle.psi_rate.specs.Least.{TellsLeast}
use Rattle.psi_rate.specs.Outcomes.{meeting_at}
use Rattle.psi_exact.specs.Ranks.{state_at}
use Rattle.psi_exact.specs.Mapping.{Mapped, map_of}

-- the map of a table, which has for the rank of each state the rank of the state that it is sent to
abbrev pub table_of : List ℕ → List ℕ → Mapped
table_of caps ranks = record { caps = caps; images = map (state_at caps) ranks }

-- each number of the list is a rank
pub record AreRanks (caps ranks : List ℕ) : Type 0 where
  pub whole : length ranks ≡ length (all_states caps)
  pub each : (r : ℕ) → r < length (all_states caps) → slice_index ranks r < length (all_states caps)

-- what every table keeps: its ranks fit 16 bits, and there is room to make the next ones
pub record IsRankTable (caps ranks spare : List ℕ) : Type 0 where
  pub few : length (all_states caps) ≤ 65536
  pub own : AreRanks caps ranks
  pub room : length spare ≡ length (all_states caps)

-- the table has the map of the last n steps, and the least horizon up to n at which all states have met is the one that was found, if one was
pub record IsFollowed (f : Functions) (caps : List ℕ) (n : ℕ) (table : Mapped) (o : Option (ℕ × List ℕ)) : Type 0 where
  pub map : table ≡ map_of caps (compose f n)
  pub found : TellsLeast (meeting_at f caps) n o
