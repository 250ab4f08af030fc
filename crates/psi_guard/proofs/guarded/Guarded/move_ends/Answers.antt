-- Answers in the proof of `Guarded::move_ends`.
use Rattle.std.proofs.Common.{◌+◌, sym, ◌∙◌, subst, arith, rules}
use Rattle.psi_state.specs.State.{Corners, IsBelow}
use Rattle.psi_event.proofs.LawLemmas.{tight-corners}
use Rattle.psi_event.proofs.SettingLemmas.{set-none}
use Rattle.psi_guard.specs.Guarding.{guarded}
use Rattle.psi_guard.proofs.IntervalsLemmas.{AreEnding, ending-step, ending-tight, part-turns}
use Rattle.psi_guard.proofs.guarded.Guarded.move_ends.Goals as goal

pub loop-i-init : goal.loop-i-init
loop-i-init c = record { low = set-none _ _ c.args.b.now.lo; high = set-none _ _ c.args.b.now.hi }

pub ends-low-requires-clause-some : goal.ends-low-requires-clause-some
ends-low-requires-clause-some c =
    let event = c.args.self.now in
    let ordered : IsBelow c.args.b.now.lo c.args.b.now.hi = c.len-queues.ensures.ordered in
    part-turns event.caps event.parts c.args.b.now.lo c.args.b.now.hi c.loop-i.b.lo c.loop-i.b.hi c.loop-i.i c.least-l.result c.greatest-h.result c.part-part.result
    c.can_move-moves.result c.others.result c.leaving-leaving.result event.guards
    (record { turn = c.can_move-moves.ensures; known = c.leaving-leaving.ensures }) ordered (ordered.same_length ∙ c.requires.same_length)
    c.loop-i.invariant (omega arith) c.part-part.ensures.value c.least-l.ensures.value c.greatest-h.ensures.value c.others.ensures

pub loop-i-preserved : goal.loop-i-preserved
loop-i-preserved c =
    let event = c.args.self.now in
    subst (λ (new : Corners). AreEnding event.parts c.args.b.now.lo c.args.b.now.hi c.can_move-moves.result c.leaving-leaving.result (c.loop-i.i + 1) new.lo new.hi) (sym c.set.ensures)
    (ending-step event.caps event.parts c.args.b.now.lo c.args.b.now.hi c.loop-i.b.lo c.loop-i.b.hi c.loop-i.i c.least-l.result c.greatest-h.result c.ends-low.result.0 c.ends-low.result.1
    c.part-part.result c.can_move-moves.result c.others.result c.leaving-leaving.result event.guards c.len-queues.ensures.ordered c.requires c.loop-i.invariant (omega arith)
    c.part-part.ensures.value c.least-l.ensures.value c.greatest-h.ensures.value c.others.ensures c.ends-low.ensures.least c.ends-low.ensures.greatest)

pub returns-clause-tight : goal.returns-clause-tight
returns-clause-tight c = search (rules, ending-tight)

pub returns-clause-hull : goal.returns-clause-hull
returns-clause-hull c = sym (tight-corners (guarded c.args.self.now.parts) c.args.b.now.lo c.args.b.now.hi _ _ c.len-queues.ensures.ordered (returns-clause-tight c))
