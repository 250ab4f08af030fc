-- Invariants of the loops of `row_ends`.
use Rattle.psi_reward.specs.Sums.{entry}
use Rattle.psi_reward.specs.Spans.{IsSpan}
use Rattle.psi_reward.proofs.sums.row_ends.Given as goal

abbrev pub invariant-loop-number : goal.invariant-loop-number
invariant-loop-number l = record { span : IsSpan (entry l.row) l.low l.number l.least l.greatest }
