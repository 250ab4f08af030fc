-- Invariants of the loops of `span_of`.
use Rattle.std.proofs.Common.{◌≡◌, ℕ, ◌<◌, length, slice_index}
use Rattle.psi_exact.specs.Alike.{IsSpanned}
use Rattle.psi_exact.proofs.alike.span_of.Given as goal

abbrev pub invariant-loop-place : goal.invariant-loop-place
invariant-loop-place g l = record {
  same_length : length l.span ≡ length (g.E.EventLaw.capacities l.e);
  done : (q : ℕ) → q < l.place → IsSpanned (g.E.EventLaw.capacities l.e) (g.E.EventLaw.function l.e) q (slice_index l.span q);
}
