-- Answers in the proof of `has_rows`.
use Rattle.std.proofs.Common.{sym, ◌∙◌, arith}
use Rattle.psi_reward.proofs.FittingLemmas.{has_rows-apart, has_rows-unfit}
use Rattle.psi_reward.proofs.checks.has_rows.Goals as goal

pub returns-then-len : goal.returns-then-len
returns-then-len c = sym (has_rows-apart c.args.queues.now c.args.caps.now c.args.table.now (λ same. c.if-len.true (c.len.ensures ∙ (same ∙ sym c.len-2.ensures.value))))

pub returns-then-len-cap : goal.returns-then-len-cap
returns-then-len-cap c = grind (arith, has_rows-unfit)
