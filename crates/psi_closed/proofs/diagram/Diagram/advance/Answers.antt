-- Answers in the proof of `Diagram::advance`.
use Rattle.std.proofs.Common.{◌∙◌, ap, sym, subst}
use Rattle.psi_state.specs.Sets.{image}
use Rattle.psi_state.proofs.SetsLemmas.{In-image}
use Rattle.psi_kinds.specs.Moves.{moved, IsMove}
use Rattle.psi_closed.specs.Closed.{held_states, arc_hull}
use Rattle.psi_closed.specs.Diagram.{Shown, AreArcsOf}
use Rattle.psi_closed.proofs.DiagramLemmas.{stepped-arcs, whole-useful, diagram-is, shown-is}
use Rattle.psi_closed.proofs.diagram.Diagram.advance.Goals as goal

pub step-requires-clause-whole : goal.step-requires-clause-whole
step-requires-clause-whole c =
    (let d = c.self.inside in whole-useful d.caps d.held.total d.held.levels d.held.arcs c.self.invariant.whole c.self.invariant.levels)

-- the move is one within the diagram's capacities
move_is : (c : goal.After-step) → IsMove c.self.inside.caps c.args.m.now
move_is c = subst (λ (d : Shown). IsMove d.caps c.args.m.now) (sym c.self.view_is) c.requires

arcs_are : (c : goal.After-step) → AreArcsOf c.self.inside.caps c.self.inside.held.total c.step.new.self.arcs
    (image (moved c.self.inside.caps c.args.m.now) (held_states c.self.inside.caps c.self.inside.held.total c.self.inside.held.arcs))
arcs_are c =
    let d = c.self.inside in
    stepped-arcs d.caps d.held.total d.held.levels c.get-room.result c.args.m.now d.held.arcs c.step.new.self.arcs (move_is c) c.self.invariant.whole c.self.invariant.levels
    c.get-room.ensures c.step.ensures.arcs

pub invariant_of-self : goal.invariant_of-self
invariant_of-self c =
    let d = c.self.inside in
    let kept = c.self.invariant in
    let new = c.step.new.self in
    let states = held_states d.caps d.held.total d.held.arcs in
    diagram-is d.caps d.held.total new (image (moved d.caps c.args.m.now) states) (moved d.caps c.args.m.now kept.some.0) kept.valid kept.fits
    (c.step.ensures.levels ∙ kept.levels) c.step.ensures.total (arcs_are c) (In-image (moved d.caps c.args.m.now) kept.some.0 states kept.some.1)

pub returns : goal.returns
returns c =
    let d = c.self.inside in
    let m = c.args.m.now in
    let new = c.step.new.self in
    shown-is d.caps d.held.total new (image (moved d.caps m) (held_states d.caps d.held.total d.held.arcs)) c.step.ensures.total (arcs_are c)
    ∙ ap (λ (s : Shown). record { caps = s.caps; total = s.total; states = arc_hull s.caps s.total (image (moved s.caps m) s.states) }) c.self.view_is
