-- Invariants of the loops of `first_end`.
use Rattle.std.proofs.Common.{◌≤◌, ℕ}
use Rattle.psi_closed_arcs.specs.Held.{Listed}
use Rattle.psi_closed_arcs.proofs.spans.first_end.Given as goal

-- no arc leaves an end below
abbrev pub invariant-loop-before : goal.invariant-loop-before
invariant-loop-before l = (s v : ℕ) → Listed l.of.arcs l.level s v → l.before ≤ s
