-- Answers in the proof of `is_one_move`.
use Rattle.std.proofs.Common.{ℕ, List, sym, subst}
use Rattle.psi_state.specs.State.{Corners, IsBelow}
use Rattle.psi_exact.specs.Alike.{IsTop}
use Rattle.psi_exact.proofs.AlikeLemmas.{top-above, top-below, one-move, one-length}
use Rattle.psi_exact.proofs.alike.is_one_move.Goals as goal

pub new-bounds-requires : goal.new-bounds-requires
new-bounds-requires g c =
    let caps = g.E.EventLaw.capacities c.args.e.now in
    let up = subst (λ (xs : List ℕ). IsTop xs c.args.span.now c.args.state.now c.top_of.result) c.caps.ensures.value c.top_of.ensures in
    top-above caps (g.E.EventLaw.function c.args.e.now) c.args.span.now c.args.state.now c.top_of.result c.requires.span c.requires.state up

pub envelope-requires : goal.envelope-requires
envelope-requires g c =
    let caps = g.E.EventLaw.capacities c.args.e.now in
    let up = subst (λ (xs : List ℕ). IsTop xs c.args.span.now c.args.state.now c.top_of.result) c.caps.ensures.value c.top_of.ensures in
    subst (λ (b : Corners). IsBelow b.hi caps) (sym c.new-bounds.ensures)
    (top-below caps (g.E.EventLaw.function c.args.e.now) c.args.span.now c.args.state.now c.top_of.result c.requires.span c.requires.state up)

pub is_one_in-requires : goal.is_one_in-requires
is_one_in-requires g c =
    let caps = g.E.EventLaw.capacities c.args.e.now in
    let up = subst (λ (xs : List ℕ). IsTop xs c.args.span.now c.args.state.now c.top_of.result) c.caps.ensures.value c.top_of.ensures in
    one-length caps (g.E.EventLaw.function c.args.e.now) c.args.span.now c.args.state.now c.top_of.result c.new-bounds.result c.envelope.new.b
    c.requires.span (g.met.E.EventLaw.closed c.args.e.now) c.requires.state up c.new-bounds.ensures c.envelope.ensures.tight

pub returns : goal.returns
returns g c = λ yes.
    (let caps = g.E.EventLaw.capacities c.args.e.now in
    let up = subst (λ (xs : List ℕ). IsTop xs c.args.span.now c.args.state.now c.top_of.result) c.caps.ensures.value c.top_of.ensures in
    one-move caps (g.E.EventLaw.function c.args.e.now) c.args.span.now c.args.state.now c.top_of.result c.new-bounds.result c.envelope.new.b
    c.requires.span (g.met.E.EventLaw.closed c.args.e.now) c.requires.state up c.new-bounds.ensures c.envelope.ensures.tight (c.is_one_in.ensures yes))
