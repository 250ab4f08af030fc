-- What a plan is.
use Rattle.std.specs.Prelude.{◌≡◌, ℕ, ◌+◌, map, Option, Some, None, option_map}
use Rattle.psi_event.specs.Law.{Function}
use Rattle.psi_rate.specs.Composition.{SystemParts}
use Rattle.psi_region.specs.Followed.{Followed}

-- the network that a follower of its runs stands for
abbrev pub network_of : {E : Type 0} → (E → Function) → SystemParts E → Followed
network_of function system = record { caps = system.caps; functions = map function system.events; split = system.split }

-- a run that was begun: its horizon, and how many of its steps are done
pub record Running : Type 0 where
  pub horizon : ℕ
  pub done : ℕ

-- a network with the past that its samples are drawn from, and the run that was begun, if one was
pub record Planned (E P : Type 0) : Type 0 where
  pub system : SystemParts E
  pub past : P
  pub run : Option Running

-- a network with the words that its samples are drawn from
pub record Drawn (E : Type 0) : Type 0 where
  pub system : SystemParts E
  pub words : ℕ → ℕ

-- no step is left: all are done, or no run was begun
abbrev pub IsOver : Option Running → Type 0
IsOver None = Unit {0}
IsOver (Some r) = r.done ≡ r.horizon

-- the run with one step more done
abbrev pub onward : Option Running → Option Running
onward run = option_map (λ r. record { horizon = r.horizon; done = r.done + 1 }) run
