-- Answers in the proof of `covers_image`.
use Rattle.std.proofs.Common.{sym, ◌∙◌}
use Rattle.psi_state.specs.State.{box}
use Rattle.psi_state.proofs.BoxesLemmas.{In-high}
use Rattle.psi_region.proofs.CoveringLemmas.{covers-from_tight, tight-from_covers, length-tight}
use Rattle.psi_region.proofs.covering.covers_image.Goals as goal

pub within-requires : goal.within-requires
within-requires g c =
    let event = c.args.e.now in
    let first = c.args.from.now in
    length-tight (g.E.EventLaw.capacities event) (g.E.EventLaw.function event) first.hi (box first.lo first.hi) c.envelope.new.b.lo c.envelope.new.b.hi
    (g.met.E.EventLaw.closed event) c.envelope.ensures.tight (In-high first.lo first.hi c.lo-from.ensures.ordered) c.requires.from
    ∙ (sym c.requires.to.same_length ∙ sym c.lo-to.ensures.ordered.same_length)

pub returns : goal.returns
returns g c =
    let event = c.args.e.now in
    let first = c.args.from.now in
    let second = c.args.to.now in
    let envelope = c.envelope.new.b in
    let f = g.E.EventLaw.function event in (
      λ is. covers-from_tight f (box first.lo first.hi) envelope.lo envelope.hi second.lo second.hi c.envelope.ensures.tight (c.within.ensures.0 is),
      λ covers. c.within.ensures.1 (tight-from_covers f first.hi (box first.lo first.hi) envelope.lo envelope.hi second.lo second.hi c.envelope.ensures.tight
          (In-high first.lo first.hi c.lo-from.ensures.ordered) covers),
    )
