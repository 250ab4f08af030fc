-- Answers in the proof of `runs::is_alike`.
use Rattle.std.proofs.Common.{◌*◌, ◌+◌, refl, arith}
use Rattle.psi_log_scan.proofs.RunLemmas.{alike_more}
use Rattle.psi_log_scan.proofs.runs.is_alike.Goals as goal

pub loop-block-preserved : goal.loop-block-preserved
loop-block-preserved c =
    alike_more c.args.text.now c.args.at c.args.run.now (16 * c.loop-block.block) (16 * (c.loop-block.block + 1)) _ _ _ (omega arith) (omega arith) (omega arith) (omega arith)
    c.loop-block.invariant (c.if-not-agree_where.ensures refl)

pub returns-then-run-first-clause-alike : goal.returns-then-run-first-clause-alike
returns-then-run-first-clause-alike c = λ holds i small.
    (let last = c.if-run-first.true in
    alike_more c.args.text.now c.args.at c.args.run.now (16 * c.loop-block.block) (16 * c.loop-block.block + 16) _ _ _ (omega arith) (omega arith) (omega arith) (omega arith)
    c.loop-block.invariant (c.if-not-agree_where.ensures refl) i (omega arith))
