use Rattle.std.proofs.Common.{arith}
use Rattle.psi_follow_packed.proofs.BuildingLemmas.{packing-needs}
use Rattle.psi_follow_packed.proofs.layout.Layout.new.Goals as goal

pub returns-then-len-fields-clause-refused : goal.returns-then-len-fields-clause-refused
returns-then-len-fields-clause-refused g c = λ p same is.
    let needs = packing-needs g.row.K c.bits_of-bits.result c.args.caps p c.bits_of-bits.ensures.some c.bits_of-bits.ensures.least same is in
    omega (arith, needs, c.len.ensures.value, c.if-len-fields.true)
