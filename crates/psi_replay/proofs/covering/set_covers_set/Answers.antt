-- Answers in the proof of `covering::set_covers_set`.
use Rattle.std.specs.Prelude.{ℕ, List, Bool, length}
use Rattle.std.proofs.Common.{ap, sym, ◌∙◌, subst}
use Rattle.psi_state.specs.Members.{In}
use Rattle.psi_log_format.specs.Log.{in_set, IsSet}
use Rattle.psi_log_format.specs.Rows.{States}
use Rattle.psi_log.proofs.ToldLemmas.{In-slice_get}
use Rattle.psi_replay.specs.Verdict.{has, covers}
use Rattle.psi_replay.proofs.ListLemmas.{all_more, all_fails}
use Rattle.psi_replay.proofs.RegionLemmas.{within_each}
use Rattle.psi_replay.proofs.covering.set_covers_set.Goals as goal

pub apply-requires : goal.apply-requires
apply-requires g c =
    within_each (g.E.EventLaw.capacities c.args.event.now) (in_set c.args.before.now.states) c.get_onto.new.x c.requires.before
    (subst (λ (r : States). In c.get_onto.new.x r.states) c.again-from.ensures (In-slice_get c.again-from.result.states c.loop-place.place c.get_onto.new.x c.get_onto.ensures))

pub set_holds-requires : goal.set_holds-requires
set_holds-requires g c =
    subst (λ (n : ℕ). IsSet n c.again-to.result.states) (sym c.apply.ensures.within.same_length)
    (subst (λ (r : States). IsSet (length (g.E.EventLaw.capacities c.args.event.now)) r.states) (sym c.again-to.ensures) c.requires.after)

pub returns-then-not-set_holds : goal.returns-then-not-set_holds
returns-then-not-set_holds g c =
    let f = g.E.EventLaw.function c.args.event.now in
    let test : List ℕ → Bool = λ x. has c.again-to.result.states (f x) in
    all_fails test c.again-from.result.states c.loop-place.place c.get_onto.new.x c.set_holds.result _ c.get_onto.ensures
    (c.set_holds.ensures ∙ ap (λ (y : List ℕ). has c.again-to.result.states y) c.apply.ensures.value) c.if-not-set_holds.true c.loop-place.invariant
    ∙ ap (λ (r : States). covers f (in_set r.states) (in_set c.again-to.result.states)) c.again-from.ensures
    ∙ ap (λ (r : States). covers f (in_set c.args.before.now.states) (in_set r.states)) c.again-to.ensures

pub loop-place-preserved : goal.loop-place-preserved
loop-place-preserved g c =
    let test : List ℕ → Bool = λ x. has c.again-to.result.states (g.E.EventLaw.function c.args.event.now x) in
    all_more test c.again-from.result.states c.loop-place.place c.get_onto.new.x c.set_holds.result _ c.get_onto.ensures
    (c.set_holds.ensures ∙ ap (λ (y : List ℕ). has c.again-to.result.states y) c.apply.ensures.value) c.if-not-set_holds.false c.loop-place.invariant
