-- Answers in the proof of `numeral::number`.
use Rattle.std.proofs.Common.{refl, ap, sym, ◌∙◌, arith}
use Rattle.std.proofs.lemmas.Bool.{le-leb, lt-leb}
use Rattle.psi_command.proofs.NumeralsLemmas.{at_most, number_at_most}
use Rattle.psi_command.proofs.words.numeral.number.Goals as goal

pub returns-then-number-most-clause-number : goal.returns-then-number-most-clause-number
returns-then-number-most-clause-number c =
    sym (number_at_most c.args.word.now c.args.most (omega arith) ∙ ap (at_most c.args.most) (sym c.greatest_read.ensures ∙ c.in_ok-number.was)
    ∙ rw (le-leb c.in_ok-number.number c.args.most c.if-number-most.true) refl)

pub returns-else-number-most-clause-number : goal.returns-else-number-most-clause-number
returns-else-number-most-clause-number c =
    sym (number_at_most c.args.word.now c.args.most (omega arith) ∙ ap (at_most c.args.most) (sym c.greatest_read.ensures ∙ c.in_ok-number.was)
    ∙ rw (lt-leb c.in_ok-number.number c.args.most (omega arith)) refl)
