-- Answers in the proof of `same::alike`.
use Rattle.std.proofs.Common.{◌+◌, ◌*◌, ◌-◌, refl, arith}
use Rattle.psi_log_scan.proofs.SameLemmas.{some_more, last_some}
use Rattle.psi_log_scan.proofs.same.alike.Goals as goal

pub returns-then-same-lt8-clause-same : goal.returns-then-same-lt8-clause-same
returns-then-same-lt8-clause-same c =
    let first = 8 * c.loop-eight.eight in
    some_more c.args.text.now c.args.other.now first (first + 8 - first) c.same_of_eight-same.result (first + c.same_of_eight-same.result) (omega arith) refl c.loop-eight.invariant
    c.same_of_eight-same.ensures.same

pub loop-eight-preserved : goal.loop-eight-preserved
loop-eight-preserved c =
    let first = 8 * c.loop-eight.eight in
    some_more c.args.text.now c.args.other.now first (first + 8 - first) c.same_of_eight-same.result (8 * (c.loop-eight.eight + 1)) (omega arith) (omega arith) c.loop-eight.invariant
    c.same_of_eight-same.ensures.same

pub returns-clause-same : goal.returns-clause-same
returns-clause-same c =
    last_some c.args.text.now c.args.other.now c.min-most.result (8 * c.loop-eight.eight) c.same_of_eight.result (omega arith) (omega arith) c.same_of_eight.ensures.few c.loop-eight.invariant
    c.same_of_eight.ensures.same
