-- Answers in the proof of `Wheel::new`.
use Rattle.std.proofs.Common.{◌≤◌, length, ◌∙◌, sym, arith}
use Rattle.std.proofs.lemmas.Grind.{common_steps}
use Rattle.psi_rate.proofs.DealtLemmas.{total-passes, total-take_more, totals_from-take_more, dial-whole, totals-within, length-some}
use Rattle.psi_rate.proofs.wheel.Wheel.new.Goals as goal

pub returns-then-sum-gt-MOST_TOTAL-clause-refused : goal.returns-then-sum-gt-MOST_TOTAL-clause-refused
returns-then-sum-gt-MOST_TOTAL-clause-refused c =
    total-passes c.args.rates.now c.loop-at.at c.loop-at.sum c.loop-at-test.true c.loop-at.invariant.whole c.loop-at.invariant.bounded c.if-sum-gt-MOST_TOTAL.true

pub loop-at-preserved : goal.loop-at-preserved
loop-at-preserved c = grind (arith, common_steps, totals_from-take_more, total-take_more)

pub new-requires-clause-within : goal.new-requires-clause-within
new-requires-clause-within c =
    let kept = c.loop-at.invariant in
    rw c.deref.ensures.value (totals-within c.args.rates.now c.loop-at.totals.items c.loop-at.sum c.next_power_of_two-modulus.result c.loop-at.at c.loop-at-test.false kept.items kept.whole
    c.next_power_of_two-modulus.ensures.lower_bound)

pub invariant_of-result : goal.invariant_of-result
invariant_of-result c =
    let kept = c.loop-at.invariant in
    let modulus = c.next_power_of_two-modulus in
    let some : 1 ≤ length c.args.rates.now = length-some c.args.rates.now (sym c.is_empty.ensures ∙ c.if-is_empty.false) in (
      dial-whole c.args.rates.now c.in_ok-from_slice.field-0.items c.loop-at.totals.items c.loop-at.sum modulus.result c.loop-at.at
          c.requires.few c.requires.least c.requires.most some c.loop-at-test.false c.in_ok-from_slice.ensures.items kept.items kept.whole kept.bounded
          modulus.ensures.power modulus.ensures.lower_bound modulus.ensures.upper_bound,
      rw c.deref.ensures.value at c.in_ok-new.ensures.table,
    )
