-- Answers in the proof of `ones_from`.
use Rattle.std.proofs.Common.{arith}
use Rattle.psi_closed_arcs.proofs.SumsLemmas.{ones-mask, no-mask}
use Rattle.psi_closed_arcs.proofs.sums.ones_from.Goals as goal

pub returns-then-low-lt64 : goal.returns-then-low-lt64
returns-then-low-lt64 c = (let low = c.saturating_sub-low.ensures in ones-mask c.args.word c.args.first c.saturating_sub-low.result (omega arith) c.if-low-lt64.true)

pub returns-else-low-lt64 : goal.returns-else-low-lt64
returns-else-low-lt64 c = (let low = c.saturating_sub-low.ensures in let far = c.if-low-lt64.false in no-mask c.args.word c.args.first (omega arith))
