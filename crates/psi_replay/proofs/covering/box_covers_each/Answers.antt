-- Answers in the proof of `covering::box_covers_each`.
use Rattle.std.specs.Prelude.{ℕ, List}
use Rattle.std.proofs.Common.{ap, ◌∙◌, subst}
use Rattle.psi_state.specs.Members.{In}
use Rattle.psi_state.proofs.BoxesLemmas.{In-of_box, below-through}
use Rattle.psi_log_format.specs.Log.{in_set}
use Rattle.psi_replay.specs.Verdict.{covers}
use Rattle.psi_log_format.specs.Listed.{shown}
use Rattle.psi_replay.proofs.covering.box_covers_each.Goals as goal

pub loop-x-init : goal.loop-x-init
loop-x-init g c =
    let f = g.E.EventLaw.function c.args.event.now in
    let caps = g.E.EventLaw.capacities c.args.event.now in
    let b = c.args.before.now in
    let whole = c.into_iter-x-iterator.ensures.into_iter_gives ∙ c.states-x-items.ensures.states in
    record {
      rest = ap (λ (xs : List (List ℕ)). covers f (in_set xs) (shown c.args.after.now)) whole;
      within = λ x member. below-through x b.hi caps (In-of_box b.lo b.hi x (subst (λ (xs : List (List ℕ)). In x xs) whole member)).high c.requires.before;
    }
