-- Invariants of the loops of `least_up_to`.
use Rattle.std.proofs.Common.{◌≡◌, ◌<◌, ◌≤◌, ◌-◌, suc, Some}
use Rattle.psi_rate.specs.Composition.{system_functions}
use Rattle.psi_rate.specs.Least.{HasNoneBelow}
use Rattle.psi_horizon.specs.Planned.{IsOver}
use Rattle.psi_horizon.specs.Runs.{ending_at}
use Rattle.psi_couple.proofs.least.least_up_to.Given as goal

-- no run of a horizon up to the lower end of the stretch ends with one state, and that of its upper end does
abbrev pub invariant-loop-high : goal.invariant-loop-high
invariant-loop-high g l = record {
  order : l.low < l.high;
  most : l.high ≤ l.met;
  none : HasNoneBelow (ending_at l.fn.plan.system.split (system_functions g.E.EventLaw.function l.fn.plan.system (g.P.Past.words l.fn.plan.past)) l.fn.plan.system.caps) (suc l.low);
  one : ending_at l.fn.plan.system.split (system_functions g.E.EventLaw.function l.fn.plan.system (g.P.Past.words l.fn.plan.past)) l.fn.plan.system.caps l.high ≡ Some l.fn.state;
  system : l.plan.system ≡ l.fn.plan.system;
  words : g.P.Past.words l.plan.past ≡ g.P.Past.words l.fn.plan.past;
  over : IsOver l.plan.run;
}

-- the stretch gets shorter
abbrev pub decreases-loop-high : goal.decreases-loop-high
decreases-loop-high g l = l.high - l.low
