-- Answers in the proof of `Diagram::fit`.
use Rattle.std.proofs.Common.{◌∙◌, ap, sym, subst, arith}
use Rattle.psi_closed.specs.Closed.{IsOfTotal, arc_hull}
use Rattle.psi_closed.specs.Diagram.{Shown, AreArcsOf}
use Rattle.psi_closed.proofs.DiagramLemmas.{put-arcs, first-member, diagram-is, shown-is}
use Rattle.psi_closed.proofs.diagram.Diagram.fit.Goals as goal

arcs_are : (c : goal.After-put_states) → AreArcsOf c.self.inside.caps c.self.inside.held.total c.put_states.new.arcs.arcs c.args.states.now
arcs_are c =
    put-arcs c.self.inside.caps c.self.inside.held.total c.put_states.new.arcs.arcs c.args.states.now c.put_states.ensures.arcs
    (λ x member. subst (λ (s : Shown). IsOfTotal s.caps s.total x) (sym c.self.view_is) (c.requires.each x member))

pub invariant_of-self : goal.invariant_of-self
invariant_of-self c =
    let d = c.self.inside in
    let kept = c.self.invariant in
    let first = first-member c.args.states.now c.requires.some in
    diagram-is d.caps d.held.total c.put_states.new.arcs c.args.states.now first.0 kept.valid kept.fits (omega arith) (omega arith) (arcs_are c) first.1

pub returns : goal.returns
returns c =
    let d = c.self.inside in
    shown-is d.caps d.held.total c.put_states.new.arcs c.args.states.now (omega arith) (arcs_are c)
    ∙ ap (λ (s : Shown). record { caps = s.caps; total = s.total; states = arc_hull s.caps s.total c.args.states.now }) c.self.view_is
