-- Answers in the proof of `covering::set_covers_box`.
use Rattle.std.specs.Prelude.{ℕ, List, Bool}
use Rattle.psi_log_format.specs.Log.{in_set}
use Rattle.psi_log.proofs.ToldLemmas.{In-slice_get}
use Rattle.psi_replay.specs.Verdict.{states_of, has}
use Rattle.psi_log_format.specs.Listed.{shown}
use Rattle.psi_replay.proofs.ListLemmas.{all_more, all_fails}
use Rattle.psi_replay.proofs.RegionLemmas.{within_each}
use Rattle.psi_replay.proofs.covering.set_covers_box.Goals as goal

pub holds_image-requires-clause-state : goal.holds_image-requires-clause-state
holds_image-requires-clause-state g c =
    within_each (g.E.EventLaw.capacities c.args.event.now) (in_set c.args.before.now.states) c.get-x.result c.requires.before
    (In-slice_get c.args.before.now.states c.loop-place.place c.get-x.result c.get-x.ensures)

pub returns-then-not-holds_image : goal.returns-then-not-holds_image
returns-then-not-holds_image g c =
    let test : List ℕ → Bool = λ x. has (states_of (shown c.args.after.now)) (g.E.EventLaw.function c.args.event.now x) in
    all_fails test c.args.before.now.states c.loop-place.place c.get-x.result c.holds_image.result _ c.get-x.ensures c.holds_image.ensures c.if-not-holds_image.true c.loop-place.invariant

pub loop-place-preserved : goal.loop-place-preserved
loop-place-preserved g c =
    let test : List ℕ → Bool = λ x. has (states_of (shown c.args.after.now)) (g.E.EventLaw.function c.args.event.now x) in
    all_more test c.args.before.now.states c.loop-place.place c.get-x.result c.holds_image.result _ c.get-x.ensures c.holds_image.ensures c.if-not-holds_image.false c.loop-place.invariant
