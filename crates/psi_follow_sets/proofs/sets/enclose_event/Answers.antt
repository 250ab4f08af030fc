-- Answers in the proof of `enclose_event`.
use Rattle.std.proofs.Common.{map, slice_index_or, arith}
use Rattle.psi_follow_sets.proofs.HaltsLemmas.{unit-read}
use Rattle.psi_follow_sets.proofs.sets.enclose_event.Goals as goal

pub returns-in-Some : goal.returns-in-Some
returns-in-Some g c =
    let p = c.args.machine.now.program.packing in
    let f = slice_index_or (map g.E.EventLaw.function c.args.course.now.events) c.args.number (λ x. x) in
    c.enclose.ensures p f
    (unit-read p f c.args.machine.now.units.items c.as_slice.result.now c.args.number c.index-as_slice-number.result c.in-Some.unit c.as_slice.ensures.value c.index-as_slice-number.is c.in-Some.is
    (omega (arith, c.requires.machine.many_units, c.requires.number)) (c.requires.machine.units c.args.number c.requires.number))
