-- Answers in the proof of `covering::box_covers_box`.
use Rattle.psi_replay.proofs.RegionLemmas.{within_high, box_covers}
use Rattle.psi_replay.proofs.covering.box_covers_box.Goals as goal

pub covers_image-requires-clause-to : goal.covers_image-requires-clause-to
covers_image-requires-clause-to g c = within_high (g.E.EventLaw.capacities c.args.event.now) c.args.after.now c.requires.within c.requires.after.below

pub returns : goal.returns
returns g c = box_covers (g.E.EventLaw.function c.args.event.now) c.args.before.now c.args.after.now c.covers_image.result c.covers_image.ensures
