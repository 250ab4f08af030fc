-- Answers in the proof of `Diagram::start`.
use Rattle.std.proofs.Common.{arith}
use Rattle.std.proofs.lemmas.Grind.{common_steps}
use Rattle.psi_closed.specs.Closed.{total_states}
use Rattle.psi_closed.proofs.ArcsLemmas.{In-total_states}
use Rattle.psi_closed.proofs.HullLemmas.{total-hull}
use Rattle.psi_closed.proofs.DiagramLemmas.{total-some, diagram-is, shown-is}
use Rattle.psi_closed.proofs.diagram.Diagram.start.Goals as goal

pub invariant_of-self : goal.invariant_of-self
invariant_of-self c =
    let d = c.self.inside in
    let kept = c.self.invariant in
    let some = total-some d.caps d.held.total kept.fits.fits in
    diagram-is d.caps d.held.total c.put_all.new.held (total_states d.caps d.held.total) some.0 kept.valid kept.fits c.put_all.ensures.levels
    c.put_all.ensures.total c.put_all.ensures.arcs (In-total_states d.caps d.held.total some.0 some.1)

pub returns : goal.returns
returns c = grind (arith, common_steps, shown-is, total-hull)
