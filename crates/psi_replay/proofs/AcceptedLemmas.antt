-- A log that breaks no rule certifies its state: each state within the capacities that starts at its horizon or earlier is
-- that state at time zero.
use Rattle.std.specs.Prelude.{◌≡◌, ℕ, zero, suc, ◌+◌, ◌-◌, ◌^◌, List, [], ◌∷◌, length, Bool, true, ◌==◌, nat_le, Result, Ok, Err, refl}
use Rattle.std.proofs.Common.{inl, inr, sym, ◌∙◌, subst, arith}
use Rattle.std.proofs.lemmas.Bool.{eqb-true}
use Rattle.psi_state.specs.State.{IsBelow, zeros, all_states}
use Rattle.psi_state.specs.Members.{In}
use Rattle.psi_state.proofs.BoxesLemmas.{In-all_states, zeros-below}
use Rattle.psi_rate.specs.Composition.{Functions, compose, AreClosed, Below, IsReached}
use Rattle.psi_rate.proofs.CompositionLemmas.{reached-later, closed-keeping, compose-keeps}
use Rattle.psi_log_format.specs.Log.{LogRegion, Entry, Certificate, IsLog}
use Rattle.psi_log_words.specs.Refusal.{Refusal, ◌>>=◌, holds_or}
use Rattle.psi_log_words.proofs.WordLemmas.{bind_ok, ok_same, held}
use Rattle.psi_replay.specs.Verdict.{rejected, states_of, has, covers, is_within, is_small, holds_all, judge_step, judge_steps, judge_end, judged, verdict_of, ReachesAccepted, AcceptsWithin}
use Rattle.psi_replay.specs.declared.causes.RuleCause.TheVariants.{Header, StepNumber, WrongEvent, OutsideBox, NotCovered, SplitTooLarge, NotSingle, WrongState}
use Rattle.psi_log_words.proofs.NumberLemmas.{all_each}
use Rattle.psi_replay.proofs.ListLemmas.{has-In}

-- members of a list that has one are one
one_member : (xs : List (List ℕ)) (x y : List ℕ) → length xs ≡ 1 → In x xs → In y xs → x ≡ y
one_member [] x y count first second = absurd first
one_member (z ∷ []) x y count first second = elim first [
  | inl e ↦ elim second [ inl d ↦ e ∙ sym d | inr none ↦ absurd none ]
  | inr none ↦ absurd none
]
one_member (z ∷ w ∷ zs) x y count first second = absurd (omega arith)

-- a rule that held before others
pub next_rule : {B : Type 0} (refusal : Refusal) (b : Bool) (rest : Unit {0} → Result B Refusal) (y : B) → (holds_or refusal b >>= rest) ≡ Ok y → (b ≡ true) × (rest tt ≡ Ok y)
next_rule refusal b rest y is =
    let parts = bind_ok (holds_or refusal b) rest y is in
    (held refusal b parts.0 parts.1, parts.2)

module _ (caps : List ℕ) (limit : ℕ) (events : ℕ → ℕ) (f : Functions) where
  -- a step that breaks no rule covers
  pub step_covered : (n t : ℕ) (before : LogRegion) (e : Entry) (u : Unit {0}) → judge_step caps limit events f n t before e ≡ Ok u → covers (f t) before e.region ≡ true
  unfolding judge_step
  step_covered n t before e u is =
      let covered : Result (Unit {0}) Refusal = holds_or (rejected n NotCovered) (covers (f t) before e.region) in
      let small : Unit {0} → Result (Unit {0}) Refusal = λ _. holds_or (rejected n SplitTooLarge) (is_small before e.region) >>= (λ _. covered) in
      let within : Unit {0} → Result (Unit {0}) Refusal = λ _. holds_or (rejected n OutsideBox) (is_within caps e.region) >>= small in
      let drawn : Unit {0} → Result (Unit {0}) Refusal = λ _. holds_or (rejected n WrongEvent) (e.step.event == events t) >>= within in
      let first = next_rule (rejected n StepNumber) (e.step.number == t) drawn u is in
      let second = next_rule (rejected n WrongEvent) (e.step.event == events t) within u first.1 in
      let third = next_rule (rejected n OutsideBox) (is_within caps e.region) small u second.1 in
      let fourth = next_rule (rejected n SplitTooLarge) (is_small before e.region) (λ _. covered) u third.1 in
      held (rejected n NotCovered) (covers (f t) before e.region) u fourth.1

  -- what all steps make of a state of the first region is in the last one
  pub steps_covered : (n t : ℕ) (before last : LogRegion) (es : List Entry) → judge_steps caps limit events f n t before es ≡ Ok last → length es ≡ t
      → (x : List ℕ) → In x (states_of before) → In (compose f t x) (states_of last)
  unfolding judge_steps
  steps_covered n t before last [] is count x member =
      let none : t ≡ 0 = sym count in
      let same : before ≡ last = ok_same before last is in
      rw none (subst (λ (r : LogRegion). In x (states_of r)) same member)
  steps_covered n zero before last (e ∷ es) is count x member = absurd (omega arith)
  steps_covered n (suc t) before last (e ∷ es) is count x member =
      let parts = bind_ok (judge_step caps limit events f n (suc t) before e) (λ (u : Unit {0}). judge_steps caps limit events f (n + 1) (suc t - 1) e.region es) last is in
      let time : suc t - 1 ≡ t = omega arith in
      let rest : judge_steps caps limit events f (n + 1) t e.region es ≡ Ok last =
      subst (λ (u : ℕ). judge_steps caps limit events f (n + 1) u e.region es ≡ Ok last) time parts.2 in
      let covered = step_covered n (suc t) before e parts.0 parts.1 in
      let there = has-In (states_of e.region) (f (suc t) x) (all_each (λ (y : List ℕ). has (states_of e.region) (f (suc t) y)) (states_of before) x covered member) in
      steps_covered (n + 1) t e.region last es rest (omega arith) (f (suc t) x) there

  -- all states that start at the horizon are in the log's state at time zero
  pub judged_meets : (c : Certificate) (u : Unit {0}) → judged caps limit events f c ≡ Ok u → IsLog c → (x : List ℕ) → IsBelow x caps → compose f c.header.horizon x ≡ c.final
  unfolding judged judge_end
  judged_meets c u is log x within =
      let t = c.header.horizon in
      let steps : Unit {0} → Result (Unit {0}) Refusal = λ _. judge_steps caps limit events f 7 t c.begin c.entries >>= (λ (last : LogRegion). judge_end (7 + t) last c.final) in
      let whole : Unit {0} → Result (Unit {0}) Refusal = λ _. holds_or (rejected 6 NotCovered) (holds_all caps c.begin) >>= steps in
      let inside : Unit {0} → Result (Unit {0}) Refusal = λ _. holds_or (rejected 6 OutsideBox) (is_within caps c.begin) >>= whole in
      let horizon : Unit {0} → Result (Unit {0}) Refusal = λ _. holds_or (rejected 5 Header) (nat_le t (2 ^ limit)) >>= inside in
      let first = next_rule (rejected 2 Header) (c.header.queues == length caps) horizon u is in
      let second = next_rule (rejected 5 Header) (nat_le t (2 ^ limit)) inside u first.1 in
      let third = next_rule (rejected 6 OutsideBox) (is_within caps c.begin) whole u second.1 in
      let fourth = next_rule (rejected 6 NotCovered) (holds_all caps c.begin) steps u third.1 in
      let run = bind_ok (judge_steps caps limit events f 7 t c.begin c.entries) (λ (last : LogRegion). judge_end (7 + t) last c.final) u fourth.1 in
      let last = run.0 in
      let one = next_rule (rejected (7 + t) NotSingle) (length (states_of last) == 1) (λ _. holds_or (rejected (7 + t) WrongState) (has (states_of last) c.final)) u run.2 in
      let told = held (rejected (7 + t) WrongState) (has (states_of last) c.final) u one.1 in
      let begun = has-In (states_of c.begin) x (all_each (λ (y : List ℕ). has (states_of c.begin) y) (all_states caps) x fourth.0 (In-all_states caps x within)) in
      one_member (states_of last) (compose f t x) c.final (eqb-true (length (states_of last)) 1 one.0)
      (steps_covered 7 t c.begin last c.entries run.1 log.count x begun) (has-In (states_of last) c.final told)

  -- so are those that start earlier
  pub judged_reached : (c : Certificate) (u : Unit {0}) → judged caps limit events f c ≡ Ok u → IsLog c → AreClosed caps f → IsReached f caps c.header.horizon c.final
  judged_reached c u is log closed = reached-later caps f c.header.horizon c.final closed (judged_meets c u is log)

  -- and the state is within the capacities
  pub judged_within : (c : Certificate) (u : Unit {0}) → judged caps limit events f c ≡ Ok u → IsLog c → AreClosed caps f → IsBelow c.final caps
  judged_within c u is log closed =
      let empty = zeros-below caps caps refl in
      subst (λ (s : List ℕ). IsBelow s caps) (judged_meets c u is log (zeros caps) empty)
      (compose-keeps (Below caps) f (closed-keeping caps f closed) c.header.horizon (zeros caps) empty)

  -- so much is told of a verdict
  pub verdict_reaches : (c : Certificate) → IsLog c → AreClosed caps f → ReachesAccepted f caps (verdict_of c (judged caps limit events f c))
  verdict_reaches c log closed = told (judged caps limit events f c) refl
    where
      told : (rules : Result (Unit {0}) Refusal) → judged caps limit events f c ≡ rules → ReachesAccepted f caps (verdict_of c rules)
      told (Ok u) is = judged_reached c u is log closed
      told (Err refusal) is = tt

  pub verdict_within : (c : Certificate) → IsLog c → AreClosed caps f → AcceptsWithin caps (verdict_of c (judged caps limit events f c))
  verdict_within c log closed = told (judged caps limit events f c) refl
    where
      told : (rules : Result (Unit {0}) Refusal) → judged caps limit events f c ≡ rules → AcceptsWithin caps (verdict_of c rules)
      told (Ok u) is = judged_within c u is log closed
      told (Err refusal) is = tt
