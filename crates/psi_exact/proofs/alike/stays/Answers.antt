-- Answers in the proof of `stays`.
use Rattle.std.proofs.Common.{slice_set, refl, sym, subst, arith}
use Rattle.psi_state.specs.State.{Corners, IsBelow}
use Rattle.psi_exact.proofs.AlikeLemmas.{whole-with_number, with_number-below, with_number-length, stays-each}
use Rattle.psi_exact.proofs.alike.stays.Goals as goal

pub set-requires-clause-place : goal.set-requires-clause-place
set-requires-clause-place g c =
    (let is = whole-with_number (g.E.EventLaw.capacities c.args.e.now) c.caps.result c.args.place c.args.number c.whole-bounds.result
    (record { lo = slice_set c.whole-bounds.result.lo c.args.place c.args.number; hi = slice_set c.whole-bounds.result.hi c.args.place c.args.number }) c.caps.ensures.value c.whole-bounds.ensures refl in
    let count = is.count in
    let place = c.requires.place in
    omega arith)

pub envelope-requires : goal.envelope-requires
envelope-requires g c =
    let caps = g.E.EventLaw.capacities c.args.e.now in
    let is = whole-with_number caps c.caps.result c.args.place c.args.number c.whole-bounds.result c.set.new.self c.caps.ensures.value c.whole-bounds.ensures c.set.ensures in
    subst (λ (b : Corners). IsBelow b.hi caps) (sym is.same) (with_number-below caps c.args.place c.args.number c.requires.number)

pub has_alone-requires : goal.has_alone-requires
has_alone-requires g c =
    let caps = g.E.EventLaw.capacities c.args.e.now in
    let is = whole-with_number caps c.caps.result c.args.place c.args.number c.whole-bounds.result c.set.new.self c.caps.ensures.value c.whole-bounds.ensures c.set.ensures in
    let count = with_number-length caps (g.E.EventLaw.function c.args.e.now) c.args.place c.args.number c.set.new.self c.envelope.new.b (g.met.E.EventLaw.closed c.args.e.now)
    c.requires.number is.same c.envelope.ensures.tight in
    let place = c.requires.place in
    omega arith

pub returns : goal.returns
returns g c = λ yes.
    (let caps = g.E.EventLaw.capacities c.args.e.now in
    let is = whole-with_number caps c.caps.result c.args.place c.args.number c.whole-bounds.result c.set.new.self c.caps.ensures.value c.whole-bounds.ensures c.set.ensures in
    stays-each caps (g.E.EventLaw.function c.args.e.now) c.args.place c.args.number c.set.new.self c.envelope.new.b (g.met.E.EventLaw.closed c.args.e.now) c.requires.place
    is.same c.envelope.ensures.tight (c.has_alone.ensures.least yes) (c.has_alone.ensures.greatest yes))
