-- Answers in the proof of `step_of`.
use Rattle.psi_follow_keyed.proofs.BuildingLemmas.{leaving-for}
use Rattle.psi_follow_keyed.proofs.keyed.step_of.Goals as goal

pub returns : goal.returns
returns g c =
    leaving-for c.args.board.now (g.E.EventLaw.capacities c.args.event.now) c.targets.result (g.E.EventLaw.function c.args.event.now) c.leaving.result
    c.requires.caps c.targets.ensures.value (g.met.E.EventLaw.closed c.args.event.now) c.leaving.ensures
