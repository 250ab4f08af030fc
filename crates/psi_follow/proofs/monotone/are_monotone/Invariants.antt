-- Invariants of the loops of `are_monotone`.
use Rattle.std.proofs.Common.{ℕ, ◌<◌, slice_index_or}
use Rattle.psi_event.specs.Law.{IsMonotone}
use Rattle.psi_follow.proofs.monotone.are_monotone.Given as goal

-- the events before this one are monotone
abbrev pub invariant-loop-number : goal.invariant-loop-number
invariant-loop-number g l = (k : ℕ) (d : g.row.E.Denot) → k < l.number
    → IsMonotone (g.E.EventLaw.capacities (slice_index_or l.course.events k d)) (g.E.EventLaw.function (slice_index_or l.course.events k d))
