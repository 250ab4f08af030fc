-- The log of a run: all states at its begin, each of its steps with the region after it, and the state with which it ends
-- (coupling from the past, Propp and Wilson 1996, with the envelopes of Bušić, Gaujal and Vincent 2008).
use Rattle.std.specs.Prelude.{ℕ, suc, ◌-◌, List, length, map, if◌then◌else◌}
use Rattle.psi_state.specs.State.{numbers_from}
use Rattle.psi_state.specs.Hull.{corners}
use Rattle.psi_rate.specs.Composition.{Functions, SystemParts, system_functions}
use Rattle.psi_region.specs.Region.{Area, start}
use Rattle.psi_horizon.specs.Runs.{region_after}
use Rattle.psi_log_format.specs.declared.header.Header.{Header}
use Rattle.psi_log_format.specs.Log.{LogRegion, in_box, in_set, Entry, Certificate}
use Rattle.psi_replay.specs.Verdict.{event_numbers}

-- a region of a run as a log has it: a set where it is split, and else its box
abbrev pub region_of : Area → LogRegion
region_of a = if a.is_split then in_set a.states else in_box (corners a.states)

-- the runs of a network with this split number, these functions and these capacities; `events t` is the number of the event t steps before time zero
module _ (split : ℕ) (f : Functions) (caps : List ℕ) (events : ℕ → ℕ) where
  -- the step that comes after so many steps of the run of a horizon, and the region after it
  abbrev pub entry_after : ℕ → ℕ → Entry
  entry_after horizon done = record {
    step = record { number = horizon - done; event = events (horizon - done) };
    region = region_of (region_after split f caps horizon (suc done));
  }

  -- the log of the run of a header's horizon that ends with a state
  unfoldable pub recorded : Header → List ℕ → Certificate
  recorded h state = record {
    header = h;
    begin = region_of (start caps);
    entries = map (entry_after h.horizon) (numbers_from 0 h.horizon);
    final = state;
  }

-- the header of the log of a sample of a seed and a stream, in version 2
abbrev pub header_of : List ℕ → ℕ → ℕ → ℕ → Header
header_of caps seed stream horizon = record { version = 2; queues = length caps; seed = seed; stream = stream; horizon = horizon }

-- the log of a network's run under these words
abbrev pub log_of : {E : Type 0} → (E → List ℕ → List ℕ) → SystemParts E → (ℕ → ℕ) → Header → List ℕ → Certificate
log_of function system words h state =
    recorded system.split (system_functions function system words) system.caps (event_numbers system words) h state
