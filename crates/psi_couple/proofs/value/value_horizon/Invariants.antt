-- Invariants of the loops of `value_horizon`.
use Rattle.std.proofs.Common.{◌≡◌, ◌≤◌}
use Rattle.psi_rate.specs.Composition.{system_functions}
use Rattle.psi_rate.specs.Doubling.{HasNone}
use Rattle.psi_reward.specs.Rewards.{reward_kind}
use Rattle.psi_reward.specs.Worth.{worth_of}
use Rattle.psi_horizon.specs.Planned.{IsOver}
use Rattle.psi_couple.specs.Valuing.{value_at}
use Rattle.psi_couple.proofs.value.value_horizon.Given as goal

-- the runs of the smaller horizons don't end with one value
abbrev pub invariant-loop-exponent : goal.invariant-loop-exponent
invariant-loop-exponent g l = record {
  earlier : HasNone (value_at (worth_of (reward_kind l.reward)) l.fn.plan.system.split
      (system_functions g.E.EventLaw.function l.fn.plan.system (g.P.Past.words l.fn.plan.past)) l.fn.plan.system.caps) l.exponent;
  system : l.plan.system ≡ l.fn.plan.system;
  words : g.P.Past.words l.plan.past ≡ g.P.Past.words l.fn.plan.past;
  over : 1 ≤ l.exponent → IsOver l.plan.run;
}
