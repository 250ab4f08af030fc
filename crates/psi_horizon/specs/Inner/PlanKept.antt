-- What every plan keeps: what it draws samples with, and its trace.
use Rattle.std.specs.Prelude.{◌≡◌, ℕ, ◌≤◌, ◌^◌, List, length, Option, IfSome, option_map}
use Rattle.psi_event.specs.Law.{Function}
use Rattle.psi_event.specs.Numbers.{AreEvents}
use Rattle.psi_rate.specs.Composition.{Functions, SystemParts, system_functions}
use Rattle.psi_rate.specs.System.{IsSystem}
use Rattle.psi_rate.specs.declared.numbers.EventNumbers.{EventNumbers}
use Rattle.psi_rate.specs.Keeping.{KeepsNumbers}
use Rattle.psi_region.specs.Region.{Regional}
use Rattle.psi_region.specs.Followed.{Followed, states_of}
use Rattle.psi_horizon.specs.declared.trace.Progress.{Progress}
use Rattle.psi_horizon.specs.declared.trace.Trace.{Trace}
use Rattle.psi_horizon.specs.Runs.{region_at, region_after}
use Rattle.psi_horizon.specs.Planned.{Running, network_of}

-- the run that was begun, as its plan is seen
abbrev pub running_of : Option Progress → Option Running
running_of run = option_map (λ r. record { horizon = r.horizon; done = r.done }) run

-- a run that was begun: it has at least the steps that are done, its horizon isn't above the greatest, and the region is that after these steps
pub record IsUnderway {E : Type 0} (f : Functions) (system : SystemParts E) (region : Regional) (r : Progress) : Type 0 where
  pub done : r.done ≤ r.horizon
  pub within : r.horizon ≤ 2 ^ system.limit
  pub area : region.area ≡ region_after system.split f system.caps r.horizon r.done

-- a trace: there is room for a split region, and the run is underway where one was begun
pub record IsTrace {E : Type 0} (f : Functions) (system : SystemParts E) (trace : Trace) : Type 0 where
  pub split : trace.region.split ≡ system.split
  pub run : IfSome trace.run (λ r. IsUnderway f system trace.region r)

-- a plan: the parts of its network fit each other, the numbers that are kept are those of the words, with room for those of the greatest horizon, the follower stands
-- for the network, and the trace is one of its runs
pub record IsPlan {E P : Type 0} (capacities : E → List ℕ) (function : E → Function) (words : P → ℕ → ℕ) (system : SystemParts E) (past : P) (numbers : EventNumbers) (network : Followed)
    (trace : Trace) : Type 0 where
  pub fit : IsSystem capacities system
  pub kept : KeepsNumbers system.rates (words past) (2 ^ system.limit) numbers
  pub follower : network ≡ network_of function system
  pub traced : IsTrace (system_functions function system (words past)) system trace

-- the numbers are those of a network's events, and the region of all states ends after these with the states of the run of a horizon
pub record IsRun {E : Type 0} (function : E → Function) (system : SystemParts E) (words : ℕ → ℕ) (horizon : ℕ) (network : Followed) (numbers : List ℕ) : Type 0 where
  pub events : AreEvents (length network.functions) numbers
  pub states : states_of network numbers ≡ (region_at system.split (system_functions function system words) system.caps horizon).states
