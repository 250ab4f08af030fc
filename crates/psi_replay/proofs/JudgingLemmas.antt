-- The judging of lines one after another, and of the step that a word picks.
use Rattle.std.specs.Prelude.{◌≡◌, ℕ, zero, suc, ◌+◌, ◌-◌, ◌≤◌, List, [], ◌∷◌, length, map, drop, Bool, ◌==◌, Option, Some, None, option_map, MatchOption, OnOk, Result, Ok, Err, slice_get, refl}
use Rattle.std.proofs.Common.{Bor, ap, sym, ◌∙◌, subst, arith}
use Rattle.std.proofs.lemmas.List.{drop_all, get_or_past}
use Rattle.std.proofs.lemmas.Option.{get_or_from_slice_get, slice_get-map}
use Rattle.psi_state.specs.declared.outcome.Step.{Step}
use Rattle.psi_event.specs.Idle.{unchanged}
use Rattle.psi_rate.specs.Rates.{event_of}
use Rattle.psi_rate.specs.Composition.{Functions, SystemParts, picked, system_functions}
use Rattle.psi_log_format.specs.Log.{LogRegion, Entry, Certificate, IsRegion}
use Rattle.psi_log_words.specs.Refusal.{Refusal, holds_or}
use Rattle.psi_log_words.proofs.WordLemmas.{held}
use Rattle.psi_log.specs.Told.{region_at, step_at}
use Rattle.psi_log.proofs.ToldLemmas.{same_region}
use Rattle.psi_replay.specs.Verdict.{rejected, covers, is_within, is_small, judge_step, judge_steps, event_numbers}
use Rattle.psi_replay.specs.Judging.{Gives}
use Rattle.psi_replay.specs.Passes.{told, and_then}
use Rattle.psi_replay.specs.declared.causes.Rejection.{Rejection}
use Rattle.psi_replay.specs.declared.causes.RuleCause.TheVariants.{StepNumber, WrongEvent, OutsideBox, NotCovered, SplitTooLarge}
use Rattle.psi_log_words.proofs.OrderLemmas.{drop_get}

-- the entry of a step is what is told of the step and of the region after it
pub entry_is : (c : Certificate) (i k : ℕ) (step : Step) (after : LogRegion) → k ≡ suc i → step_at c k ≡ Some step → region_at c k ≡ Some after
    → slice_get c.entries i ≡ Some (record { step = step; region = after })
entry_is c i k step after next here region =
    go (slice_get c.entries i) (subst (λ (j : ℕ). step_at c j ≡ Some step) next here) (subst (λ (j : ℕ). region_at c j ≡ Some after) next region)
  where
    go : (o : Option Entry) → option_map (λ (e : Entry). e.step) o ≡ Some step → option_map (λ (e : Entry). e.region) o ≡ Some after → o ≡ Some (record { step = step; region = after })
    go None first second = absurd cc
    go (Some e) first second =
        ap (λ (s : Step). Some (record { step = s; region = e.region })) (same_step e.step step first)
        ∙ ap (λ (r : LogRegion). Some (record { step = step; region = r })) (same_region e.region after second)
      where
        same_step : (s t : Step) → ◌≡◌ {A = Option Step} (Some s) (Some t) → s ≡ t
        same_step s t same = cc

pub regional_once : (queues count : ℕ) (r : LogRegion) (judged : Result (Unit {0}) Rejection) → IsRegion queues r → OnOk judged (queues ≡ count) → OnOk judged (IsRegion count r)
regional_once queues count r (Ok u) is same = subst (λ (q : ℕ). IsRegion q r) same is
regional_once queues count r (Err rejection) is same = tt

-- what held where no rule was broken before holds where none is broken after
pub held_on : (P : Type 0) (before after : Result (Unit {0}) Rejection) → OnOk after (told before ≡ Ok tt) → OnOk before P → OnOk after P
held_on P (Ok u) (Ok v) is holds = holds
held_on P (Err rejection) (Ok v) is holds = absurd cc
held_on P before (Err rejection) is holds = tt

module _ (caps : List ℕ) (limit : ℕ) (events : ℕ → ℕ) (f : Functions) where
  -- a line that is judged leaves those after it, and after the last one the region before is the last
  pub judge_turn : (n m t u i : ℕ) (before : LogRegion) (es : List Entry) (e : Entry) (judged : Result (Unit {0}) Refusal) → slice_get es i ≡ Some e → m ≡ n + 1 → u ≡ t - 1
      → and_then (and_then judged (judge_step caps limit events f n t before e)) (judge_steps caps limit events f m u e.region (drop (i + 1) es))
      ≡ and_then judged (judge_steps caps limit events f n t before (drop i es))
  unfolding judge_steps
  judge_turn n m t u i before es e (Ok kept) is line time = rw (drop_get es i e is, line, time) refl
  judge_turn n m t u i before es e (Err refusal) is line time = refl

  pub judge_over : (n t i : ℕ) (before : LogRegion) (es : List Entry) → length es ≤ i → judge_steps caps limit events f n t before (drop i es) ≡ Ok before
  unfolding judge_steps
  judge_over n t i before es past = rw (drop_all i es past) refl

slice_get_none : {X : Type 0} (xs : List X) (i : ℕ) → slice_get xs i ≡ None → length xs ≤ i
slice_get_none [] i none = omega arith
slice_get_none (x ∷ xs) zero none = absurd cc
slice_get_none (x ∷ xs) (suc i) none = (let rest = slice_get_none xs i none in omega arith)

-- two rules hold where both do
both_hold : (a b : Result (Unit {0}) Refusal) → and_then a b ≡ Ok tt → (a ≡ Ok tt) × (b ≡ Ok tt)
both_hold (Ok x) b is = (refl, is)
both_hold (Err refusal) b is = absurd cc

-- where the rules before it hold, the last rule of a step's line is left
step_judged : (caps : List ℕ) (limit : ℕ) (events : ℕ → ℕ) (f : Functions) (n t : ℕ) (before : LogRegion) (e : Entry) (numbered drawn within small covered : Bool) (result : Result (Unit {0}) Rejection)
    → numbered ≡ (e.step.number == t) → drawn ≡ (e.step.event == events t) → within ≡ is_within caps e.region → small ≡ is_small before e.region → covered ≡ covers (f t) before e.region
    → holds_or (rejected n StepNumber) numbered ≡ Ok tt → holds_or (rejected n WrongEvent) drawn ≡ Ok tt → holds_or (rejected n OutsideBox) within ≡ Ok tt → holds_or (rejected n SplitTooLarge) small ≡ Ok tt
    → Gives (λ _. tt) result (holds_or (rejected n NotCovered) covered) → Gives (λ _. tt) result (judge_step caps limit events f n t before e)
unfolding judge_step
step_judged caps limit events f n t before e numbered drawn within small covered result first second third fourth fifth one two three four last =
    let rule : judge_step caps limit events f n t before e ≡ holds_or (rejected n NotCovered) (covers (f t) before e.region) =
    rw (
      sym first ∙ held (rejected n StepNumber) numbered tt one,
      sym second ∙ held (rejected n WrongEvent) drawn tt two,
      sym third ∙ held (rejected n OutsideBox) within tt three,
      sym fourth ∙ held (rejected n SplitTooLarge) small tt four,
    ) refl in
    subst (λ (rules : Result (Unit {0}) Refusal). Gives (λ _. tt) result rules) (ap (λ (b : Bool). holds_or (rejected n NotCovered) b) fifth ∙ sym rule) last

-- the test of the event of a word is that of the word's function
picked_covers : {E : Type 0} (function : E → List ℕ → List ℕ) (events : List E) (rates : List ℕ) (word : ℕ) (event : Option (Bor E)) (r : Bool) (before after : LogRegion)
    → option_map (λ (e : Bor E). e.now) event ≡ slice_get events (event_of rates word)
    → MatchOption event (r ≡ covers unchanged before after) (λ e. r ≡ covers (function e.now) before after) → r ≡ covers (picked (map function events) rates word) before after
picked_covers function events rates word None r before after is tells =
    tells ∙ ap (λ (f : List ℕ → List ℕ). covers f before after) (sym (none_picked (slice_get-map function events (event_of rates word) ∙ ap (λ o. option_map function o) (sym is))))
  where
    none_picked : slice_get (map function events) (event_of rates word) ≡ None → picked (map function events) rates word ≡ (λ x. x)
    none_picked none = get_or_past (map function events) (event_of rates word) (λ x. x) (slice_get_none (map function events) (event_of rates word) none)
picked_covers function events rates word (Some e) r before after is tells =
    tells ∙ ap (λ (f : List ℕ → List ℕ). covers f before after)
    (sym (get_or_from_slice_get (map function events) (event_of rates word) (function e.now) (λ x. x)
    (slice_get-map function events (event_of rates word) ∙ ap (λ o. option_map function o) (sym is))))

-- where the rules before it hold, the last rule of the line of a step is left, by what a word draws
pub drawn_judged : {E : Type 0} (function : E → List ℕ → List ℕ) (system : SystemParts E) (words : ℕ → ℕ) (n t number : ℕ) (event : Option (Bor E)) (before : LogRegion) (e : Entry)
    (within small covered : Bool) (result : Result (Unit {0}) Rejection)
    → number ≡ event_numbers system words t → option_map (λ (e : Bor E). e.now) event ≡ slice_get system.events (event_of system.rates (words (t - 1)))
    → and_then (holds_or (rejected n StepNumber) (e.step.number == t)) (holds_or (rejected n WrongEvent) (e.step.event == number)) ≡ Ok tt
    → within ≡ is_within system.caps e.region → small ≡ is_small before e.region
    → MatchOption event (covered ≡ covers unchanged before e.region) (λ f. covered ≡ covers (function f.now) before e.region)
    → holds_or (rejected n OutsideBox) within ≡ Ok tt → holds_or (rejected n SplitTooLarge) small ≡ Ok tt → Gives (λ _. tt) result (holds_or (rejected n NotCovered) covered)
    → Gives (λ _. tt) result (judge_step system.caps system.limit (event_numbers system words) (system_functions function system words) n t before e)
drawn_judged function system words n t number event before e within small covered result drawn picks numbers inside few tells three four last =
    let kept = both_hold _ _ numbers in
    let covering = picked_covers function system.events system.rates (words (t - 1)) event covered before e.region picks tells in
    step_judged system.caps system.limit (event_numbers system words) (system_functions function system words) n t before e _ _ within small covered result
    refl (ap (λ (k : ℕ). e.step.event == k) drawn) inside few covering kept.0 kept.1 three four last
