-- Answers in the proof of `numbers::digits`.
use Rattle.std.proofs.Common.{◌∙◌, ◌+◌, sym, arith, rules}
use Rattle.psi_log_words.proofs.NumeralLemmas.{digits_more, digits_are, digits_value_are, value_more, value_over}
use Rattle.psi_log_words.proofs.numbers.digits.Goals as goal

pub returns-then-not-is_ascii_digit : goal.returns-then-not-is_ascii_digit
returns-then-not-is_ascii_digit c =
    let are = c.loop-count.invariant.digits in
    (c.loop-count.invariant.value ∙ digits_value_are c.args.word.now c.loop-count.count are (λ small. search rules), sym (digits_are c.args.word.now c.loop-count.count are (λ small. search rules)))

pub loop-count-preserved : goal.loop-count-preserved
loop-count-preserved c = record {
  digits = digits_more c.args.word.now c.loop-count.count c.loop-count.invariant.digits c.loop-count-test.true (search rules);
  value = (let more = value_more c.args.word.now c.loop-count.count c.loop-count-test.true (search rules) in
      let so_far = c.loop-count.invariant.value in
      omega (arith, c.in-Some.ensures));
}

pub returns-in-None : goal.returns-in-None
returns-in-None c =
    let more = value_more c.args.word.now c.loop-count.count c.loop-count-test.true (search rules) in
    let over = value_over c.args.word.now (c.loop-count.count + 1) (digits_more c.args.word.now c.loop-count.count c.loop-count.invariant.digits c.loop-count-test.true (search rules)) in
    let so_far = c.loop-count.invariant.value in
    omega (arith, c.in-None.ensures)

pub returns : goal.returns
returns c =
    let are = c.loop-count.invariant.digits in (
      c.loop-count.invariant.value ∙ digits_value_are c.args.word.now c.loop-count.count are (λ small. absurd (omega arith)),
      (let end = digits_are c.args.word.now c.loop-count.count are (λ small. absurd (omega arith)) in omega arith),
    )
