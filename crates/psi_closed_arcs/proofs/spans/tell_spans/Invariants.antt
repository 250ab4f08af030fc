-- Invariants of the loops of `tell_spans`.
use Rattle.std.proofs.Common.{◌<◌, ◌≤◌, ℕ}
use Rattle.psi_closed_arcs.specs.Inner.SpansKept.{span_at, IsSpan}
use Rattle.psi_closed_arcs.proofs.spans.tell_spans.Given as goal

-- the spans of the queues before this one are told
abbrev pub invariant-loop-level : goal.invariant-loop-level
invariant-loop-level l = (k : ℕ) → l.low ≤ k → k < l.level → IsSpan l.of.arcs l.of.total k (span_at l.spans k)
