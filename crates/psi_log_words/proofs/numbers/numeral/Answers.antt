-- Answers in the proof of `numbers::numeral`.
use Rattle.std.proofs.Common.{get_or, sym, ◌∙◌, arith}
use Rattle.std.proofs.lemmas.Bool.{eqb-false}
use Rattle.psi_log_words.proofs.NumeralLemmas.{numeral_front}
use Rattle.psi_log_words.proofs.numbers.numeral.Goals as goal
use Rattle.psi_log_words.proofs.numbers.numeral.Goals.{then-count-gt1, else-count-gt1}

pub returns : goal.returns
returns c =
    let count = c.in_ok-value.ensures.1 in (
      numeral_front c.args.word.now (omega arith)
          (λ zero. elim c.if-count-gt1.branch [
            | then-count-gt1 w ↦ absurd (eqb-false (get_or c.args.word.now 0 0) 48 (sym w.value-is ∙ c.if-word-eq48.false) zero)
            | else-count-gt1 w ↦ omega arith
          ]),
      c.in_ok-value.ensures.0,
      count,
    )
