-- Invariants of the loops of `past_end`.
use Rattle.std.proofs.Common.{◌<◌, ◌≤◌, ◌+◌, ℕ}
use Rattle.psi_closed_arcs.specs.Held.{Listed}
use Rattle.psi_closed_arcs.proofs.spans.past_end.Given as goal

-- no arc leaves an end from here on
abbrev pub invariant-loop-before : goal.invariant-loop-before
invariant-loop-before l = record {
  past : (s v : ℕ) → Listed l.of.arcs l.level s v → s < l.before;
  most : l.before ≤ l.of.total + 1;
}
