-- Answers in the proof of `runs::run_of`.
use Rattle.std.proofs.Common.{◌∙◌, ap, take, drop, length, ◌+◌, ◌-◌, length-drop, refl, arith}
use Rattle.std.proofs.lemmas.List.{take-take, length-take-le}
use Rattle.psi_log_scan.proofs.RunLemmas.{run_is, digits_within}
use Rattle.psi_log_scan.proofs.runs.run_of.Goals as goal

pub around-requires-clause-within : goal.around-requires-clause-within
around-requires-clause-within c =
    let within = digits_within c.args.row.now c.args.queue c.requires.queue in
    omega (arith, c.front_len-from.ensures.value, c.width-width.ensures.value)

pub returns : goal.returns
returns c =
    let part = drop c.args.at c.args.text.now in
    let size = length-take-le (c.args.at + 128 - c.args.at) part (omega (arith, length-drop c.args.at c.args.text.now)) in
    run_is c.args.text.now c.args.row.now c.args.at c.args.end _ (omega arith) c.requires.queue c.requires.there refl c.if-len-ge128.false
    (ap (take (c.args.end - c.args.at)) c.array_of.ensures ∙ take-take (c.args.end - c.args.at) (c.args.at + 128 - c.args.at) part (omega arith))
    (omega (arith, ap length c.array_of.ensures, size)) (omega (arith, c.front_len-from.ensures.value)) c.width-width.ensures.value c.width-width.ensures.some
    c.around.ensures
