-- The rises by the events before this one are there.
use Rattle.std.proofs.Common.{length, map}
use Rattle.psi_path.specs.Sums.{worth_at}
use Rattle.psi_path_packed.specs.Inner.RisesKept.{AreRisesUpTo}
use Rattle.psi_path_packed.proofs.rises.reward_rises.Given as goal

abbrev pub invariant-loop-event : goal.invariant-loop-event
invariant-loop-event g l = record {
  rises : AreRisesUpTo (g.R.Rewards.capacities l.rewards) (map g.E.EventLaw.function l.events) (length (g.R.Rewards.worths l.rewards)) (worth_at (g.R.Rewards.worths l.rewards)) l.event-index l.rises.items;
}
