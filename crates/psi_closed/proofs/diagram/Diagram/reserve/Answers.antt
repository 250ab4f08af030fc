-- Answers in the proof of `Diagram::reserve`.
use Rattle.std.proofs.Common.{arith, ◌≡◌, ◌∙◌, ap, subst}
use Rattle.std.proofs.lemmas.Grind.{common_steps}
use Rattle.psi_closed_arcs.specs.Held.{ArcList}
use Rattle.psi_closed.specs.Closed.{total_states}
use Rattle.psi_closed.specs.Diagram.{AreArcsOf}
use Rattle.psi_closed.proofs.ArcsLemmas.{In-total_states}
use Rattle.psi_closed.proofs.HullLemmas.{total-hull}
use Rattle.psi_closed.proofs.DiagramLemmas.{total-some, diagram-is, shown-is}
use Rattle.psi_closed.proofs.diagram.Diagram.reserve.Goals as goal

total_is : (c : goal.After-put_all) → c.in_ok-held.held.total ≡ c.args.total
total_is c = ap (λ (a : ArcList). a.total) c.in_ok-held.ensures

arcs_are : (c : goal.After-put_all) → AreArcsOf c.args.caps c.args.total c.put_all.new.held.arcs (total_states c.args.caps c.args.total)
arcs_are c = subst (λ n. AreArcsOf c.args.caps n c.put_all.new.held.arcs (total_states c.args.caps n)) (total_is c) c.put_all.ensures.arcs

pub invariant_of-result : goal.invariant_of-result
invariant_of-result c =
    let caps = c.args.caps in
    let k = c.args.total in
    let some = total-some caps k c.requires.fits.fits in
    diagram-is caps k c.put_all.new.held (total_states caps k) some.0 c.requires.valid c.requires.fits c.put_all.ensures.levels
    (c.put_all.ensures.total ∙ total_is c) (arcs_are c)
    (In-total_states caps k some.0 some.1)

pub returns : goal.returns
returns c = grind (arith, common_steps, shown-is, total-hull)
