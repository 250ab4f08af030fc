-- The rises by the events before this one are there.
use Rattle.std.proofs.Common.{pos, length, map, slice_index}
use Rattle.psi_path_packed.specs.Inner.RisesKept.{AreRisesUpTo}
use Rattle.psi_path_packed.proofs.rises.customer_rises.Given as goal

abbrev pub invariant-loop-event : goal.invariant-loop-event
invariant-loop-event g l = record {
  rises : AreRisesUpTo l.caps (map g.E.EventLaw.function l.events) (length l.caps) (λ q x. pos (slice_index x q)) l.event-index l.rises.items;
}
