-- Answers in the proof of `Guarded::new`.
use Rattle.std.proofs.Common.{◌≡◌, ◌≤◌, ℕ, suc, ◌+◌, List, ◌∷◌, ◌++◌, length, take, drop, ap, sym, ◌∙◌, subst, arith, None, take-suc, take_all, drop_of_length-le, rules, []}
use Rattle.std.proofs.lemmas.Grind.{common_steps}
use Rattle.psi_guard.specs.declared.parts.Part.{Part}
use Rattle.psi_guard.specs.Guarding.{guarded, upset_of}
use Rattle.psi_guard.specs.Inner.PartsKept.{no_part}
use Rattle.psi_guard.specs.Refusals.{AreGuards, refusal_after, refusal_of, at}
use Rattle.psi_guard.proofs.AcceptedLemmas.{guards-empty, guards-push, kept-room, refusal-found, refusal-later}
use Rattle.psi_guard.proofs.guarded.Guarded.new.Goals as goal

pub loop-part-init : goal.loop-part-init
loop-part-init c = record {
  kept = c.empty-kept.ensures;
  guards = subst (λ (p : List Part). AreGuards c.args.caps p) (sym c.empty-kept.ensures) (guards-empty c.args.caps);
  left = ap (λ (p : List Part). refusal_after c.args.caps p c.args.parts.now) c.empty-kept.ensures;
}

pub returns-in-Some-clause-refused : goal.returns-in-Some-clause-refused
returns-in-Some-clause-refused c = grind (arith, common_steps, refusal-found)

pub push-requires : goal.push-requires
push-requires c = search (rules, kept-room)

pub loop-part-preserved : goal.loop-part-preserved
loop-part-preserved c =
    let parts = c.args.parts.now in
    let i = c.loop-part.part-index in
    let none = sym c.refusal.ensures ∙ c.in_default.is in
    let next : i + 1 ≡ suc i = omega arith in
    record {
      kept = c.push.ensures ∙ (ap (λ (p : List Part). p ++ at parts i ∷ []) c.loop-part.invariant.kept
          ∙ (sym (take-suc parts i no_part c.loop-part-test.true) ∙ ap (λ j. take j parts) (sym next)));
      guards = subst (λ (p : List Part). AreGuards c.args.caps p) (sym c.push.ensures)
          (guards-push c.args.caps c.loop-part.kept (at parts i) c.loop-part.invariant.guards none);
      left = ap (λ (p : List Part). refusal_after c.args.caps p (drop (i + 1) parts)) c.push.ensures
          ∙ (sym (refusal-later c.args.caps c.loop-part.kept parts i c.loop-part-test.true none) ∙ c.loop-part.invariant.left);
    }

whole : (i : ℕ) (parts kept : List Part) → length parts ≤ i → kept ≡ take i parts → kept ≡ parts
whole i parts kept over is = is ∙ take_all i parts over

-- nothing is left to be refused
none-left : (caps : List ℕ) (i : ℕ) (parts kept : List Part) → length parts ≤ i → refusal_after caps kept (drop i parts) ≡ refusal_of caps parts
    → refusal_of caps parts ≡ None
none-left caps i parts kept over left = sym left ∙ ap (λ (p : List Part). refusal_after caps kept p) (drop_of_length-le parts over)

pub accepted-requires-clause-accepted : goal.accepted-requires-clause-accepted
accepted-requires-clause-accepted c =
    let over : length c.args.parts.now ≤ c.loop-part.part-index = omega arith in
    ap (λ (p : List Part). refusal_of c.args.caps p) (whole c.loop-part.part-index c.args.parts.now c.loop-part.kept over c.loop-part.invariant.kept)
    ∙ none-left c.args.caps c.loop-part.part-index c.args.parts.now c.loop-part.kept over c.loop-part.invariant.left

pub returns-clause-function : goal.returns-clause-function
returns-clause-function c =
    c.accepted.ensures.function
    ∙ ap (λ (p : List Part). guarded p) (whole c.loop-part.part-index c.args.parts.now c.loop-part.kept (omega arith) c.loop-part.invariant.kept)

pub returns-clause-upset_pair : goal.returns-clause-upset_pair
returns-clause-upset_pair c =
    c.accepted.ensures.upset_pair
    ∙ ap (λ (p : List Part). upset_of c.args.caps p) (whole c.loop-part.part-index c.args.parts.now c.loop-part.kept (omega arith) c.loop-part.invariant.kept)

pub returns-clause-accepted : goal.returns-clause-accepted
returns-clause-accepted c = search (rules, none-left)
