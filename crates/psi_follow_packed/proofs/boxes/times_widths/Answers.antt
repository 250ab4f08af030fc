use Rattle.std.proofs.Common.{◌*◌, ◌≤◌, refl, arith}
use Rattle.psi_follow_packed.specs.Boxes.{widths}
use Rattle.psi_follow_packed.proofs.WidthsLemmas.{part-more, part-done, part-above, shifted-smaller}
use Rattle.psi_follow_packed.proofs.boxes.times_widths.Goals as goal

pub loop-rest-init : goal.loop-rest-init
loop-rest-init c = λ x fit word. record { left = x; fit = fit; word = word; all = refl }

pub loop-rest-preserved : goal.loop-rest-preserved
loop-rest-preserved c = λ x fit word.
    let some : 1 ≤ c.loop-rest.rest = omega (arith, c.loop-rest-test.true) in
    part-more c.args.bits (c.args.count * widths x) c.loop-rest.rest c.loop-rest.product (omega (arith, c.requires.few)) some (c.loop-rest.invariant x fit word)

pub loop-rest-smaller : goal.loop-rest-smaller
loop-rest-smaller c = shifted-smaller c.args.bits c.loop-rest.rest c.requires.some (omega (arith, c.loop-rest-test.true))

pub returns-else-product-most : goal.returns-else-product-most
returns-else-product-most c = λ x fit word.
    part-above c.args.bits (c.args.count * widths x) c.loop-rest.rest c.loop-rest.product c.args.most (omega (arith, c.if-product-most.false)) (c.loop-rest.invariant x fit word)

pub returns-after-loop-rest : goal.returns-after-loop-rest
returns-after-loop-rest c = λ x fit word.
    part-done c.args.bits (c.args.count * widths x) c.loop-rest.rest c.loop-rest.product c.args.most (omega (arith, c.loop-rest-test.false)) (c.loop-rest.invariant x fit word)
