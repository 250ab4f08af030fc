-- Answers in the proof of `regions::box_is_within`.
use Rattle.psi_replay.proofs.RegionLemmas.{box_within}
use Rattle.psi_replay.proofs.regions.box_is_within.Goals as goal

pub returns : goal.returns
returns c = box_within c.args.caps.now c.args.bounds.now c.hi.result c.leq.result c.hi.ensures.ordered c.hi.ensures.value c.leq.ensures
