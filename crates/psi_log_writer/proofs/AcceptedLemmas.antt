-- The log of a run that ends with one state is accepted by its checker.
use Rattle.std.proofs.Common.{◌≡◌, ℕ, zero, suc, ◌+◌, ◌-◌, ◌%◌, ◌<◌, ◌≤◌, ◌^◌, List, [], ◌∷◌, length, map, true, nat_le, ◌==◌, Some, Result, Ok, inl, inr, refl, sym, ◌∙◌, ap, subst, arith}
use Rattle.std.specs.Cmp.Lexicographic.{pointwise}
use Rattle.std.proofs.lemmas.Bool.{cases_Bool, le-leb, eq-eqb}
use Rattle.std.proofs.lemmas.List.{length-map}
use Rattle.psi_state.specs.State.{AreCapacities, numbers_from, all_states}
use Rattle.psi_state.specs.Members.{In}
use Rattle.psi_state.specs.Sets.{single}
use Rattle.psi_state.specs.Hull.{corners}
use Rattle.psi_state.proofs.MembersLemmas.{In-of_map, In-of_numbers_from}
use Rattle.psi_event.specs.Law.{IsClosed}
use Rattle.psi_rate.specs.Rates.{total, least_power, event_of}
use Rattle.psi_rate.specs.Composition.{SystemParts, AreClosed}
use Rattle.psi_rate.proofs.RatesLemmas.{event_at-below}
use Rattle.psi_region.specs.Region.{Area, start, splits, step}
use Rattle.psi_region.proofs.RegionLemmas.{step-has, step-split, step-box}
use Rattle.psi_horizon.specs.Runs.{region_at, ending_at, region_after}
use Rattle.psi_horizon.proofs.RunsLemmas.{region_after-whole}
use Rattle.psi_horizon.proofs.SampleLemmas.{ending-within}
use Rattle.psi_log_format.specs.declared.header.Header.{Header as Head}
use Rattle.psi_log_format.specs.Log.{LogRegion, in_box, Entry, greatest_horizon, IsState, IsRegion, IsEntry, IsLog}
use Rattle.psi_log_words.specs.Refusal.{Refusal}
use Rattle.psi_log_words.proofs.StateLemmas.{below_again}
use Rattle.psi_replay.specs.Verdict.{states_of, has, covers, is_within, is_small, holds_all, judge_step, judge_steps, judge_end, judged, verdict_of, event_numbers}
use Rattle.psi_log_words.proofs.NumberLemmas.{all_from}
use Rattle.psi_replay.proofs.ListLemmas.{has-from_In}
use Rattle.psi_log_writer.specs.Recorded.{region_of, entry_after, recorded}
use Rattle.psi_log_writer.specs.Accepted.{LogsAreAccepted}
use Rattle.psi_log_writer.proofs.WalkingLemmas.{region_of-set}
use Rattle.psi_log_writer.proofs.RegionLemmas.{IsKept, kept-start, kept-step, kept-after, splits-few, region_of-plain, states_of-region, state-below, region_of-region}

-- the rules of regions
within-judged : (split : ℕ) (caps : List ℕ) (a : Area) → IsKept split caps a → is_within caps (region_of a) ≡ true
within-judged split caps a kept =
    all_from (λ (x : List ℕ). pointwise nat_le x caps) (states_of (region_of a))
    (λ x member. below_again x caps (kept.area.within x (subst (λ (xs : List (List ℕ)). In x xs) (states_of-region split caps a kept) member)))

whole-judged : (split : ℕ) (caps : List ℕ) → holds_all caps (region_of (start caps)) ≡ true
whole-judged split caps =
    all_from (λ (x : List ℕ). has (states_of (region_of (start caps))) x) (all_states caps)
    (λ x member. has-from_In (states_of (region_of (start caps))) x
    (subst (λ (xs : List (List ℕ)). In x xs) (sym (states_of-region split caps (start caps) (kept-start split caps))) member))

covers-judged : (split : ℕ) (caps : List ℕ) (f : List ℕ → List ℕ) (a : Area) → IsClosed caps f → IsKept split caps a → covers f (region_of a) (region_of (step split f a)) ≡ true
covers-judged split caps f a closed kept =
    let after = step split f a in
    all_from (λ (x : List ℕ). has (states_of (region_of after)) (f x)) (states_of (region_of a))
    (λ x member. has-from_In (states_of (region_of after)) (f x)
    (subst (λ (xs : List (List ℕ)). In (f x) xs) (sym (states_of-region split caps after (kept-step split caps f a closed kept)))
    (step-has split caps f a x closed kept.area (subst (λ (xs : List (List ℕ)). In x xs) (states_of-region split caps a kept) member))))

small-judged : (split : ℕ) (caps : List ℕ) (f : List ℕ → List ℕ) (a : Area) → split ≤ 4096 → IsKept split caps a → is_small (region_of a) (region_of (step split f a)) ≡ true
small-judged split caps f a most kept = elim (cases_Bool a.is_split) [
  | inl is ↦ rw (region_of-set a is) refl
  | inr plain ↦ elim (cases_Bool (splits split a)) [
    | inl few ↦ (let own : length a.states ≤ split = splits-few split caps a kept few in
        let count : length (states_of (in_box (corners a.states))) ≡ length a.states =
        ap (λ (r : LogRegion). length (states_of r)) (sym (region_of-plain a plain)) ∙ ap (λ (xs : List (List ℕ)). length xs) (states_of-region split caps a kept) in
        rw (region_of-plain a plain, step-split split f a few) (le-leb (length (states_of (in_box (corners a.states)))) 4096 (omega arith)))
    | inr many ↦ rw (region_of-plain a plain, step-box split f a many) refl
  ]
]

-- the one member of a list that has one
single-list : (xs : List (List ℕ)) (s : List ℕ) → single xs ≡ Some s → xs ≡ s ∷ []
single-list [] s is = absurd cc
single-list (x ∷ []) s is = (let same : x ≡ s = cc in ap (λ (y : List ℕ). y ∷ []) same)
single-list (x ∷ y ∷ ys) s is = absurd cc

end-judged : (n : ℕ) (last : LogRegion) (s : List ℕ) → states_of last ≡ s ∷ [] → judge_end n last s ≡ Ok tt
unfolding judge_end
end-judged n last s is =
    rw (ap (λ (xs : List (List ℕ)). length xs == 1) is, has-from_In (states_of last) s (subst (λ (xs : List (List ℕ)). In s xs) (sym is) (inl refl))) refl

length-numbers : (first n : ℕ) → length (numbers_from first n) ≡ n
length-numbers first zero = refl
length-numbers first (suc n) = (let rest = length-numbers (suc first) n in omega arith)

module _ (caps : List ℕ) (limit : ℕ) (events : ℕ → ℕ) (f : ℕ → List ℕ → List ℕ) where
  step-judged : (n t : ℕ) (before : LogRegion) (e : Entry) → e.step.number ≡ t → e.step.event ≡ events t → is_within caps e.region ≡ true → is_small before e.region ≡ true
      → covers (f t) before e.region ≡ true → judge_step caps limit events f n t before e ≡ Ok tt
  unfolding judge_step
  step-judged n t before e number event within small covered = rw (eq-eqb e.step.number t number, eq-eqb e.step.event (events t) event, within, small, covered) refl

  -- the lines of the steps that are left
  steps-judged : (split horizon m k n : ℕ) → split ≤ 4096 → AreClosed caps f → k + n ≡ horizon
      → judge_steps caps limit events f m (horizon - k) (region_of (region_after split f caps horizon k)) (map (entry_after split f caps events horizon) (numbers_from k n))
      ≡ Ok (region_of (region_after split f caps horizon horizon))
  unfolding judge_steps
  steps-judged split horizon m k zero most closed sum = (let e : k ≡ horizon = omega arith in rw e refl)
  steps-judged split horizon m k (suc n) most closed sum =
      let a = region_after split f caps horizon k in
      let t = horizon - k in
      let own = closed.each t in
      let kept = kept-after split caps f horizon k closed in
      let entry = entry_after split f caps events horizon k in
      let here = step-judged m t (region_of a) entry refl refl (within-judged split caps (step split (f t) a) (kept-step split caps (f t) a own kept))
      (small-judged split caps (f t) a most kept) (covers-judged split caps (f t) a own kept) in
      let time : horizon - k - 1 ≡ horizon - suc k = omega arith in
      rw (here, time) (steps-judged split horizon (m + 1) (suc k) n most closed (omega arith))

  -- the log breaks no rule
  pub recorded-judged : (split : ℕ) (h : Head) (state : List ℕ) → split ≤ 4096 → AreClosed caps f → h.queues ≡ length caps → h.horizon ≤ 2 ^ limit
      → ending_at split f caps h.horizon ≡ Some state → judged caps limit events f (recorded split f caps events h state) ≡ Ok tt
  unfolding judged recorded
  recorded-judged split h state most closed queues few ends =
      let t = h.horizon in
      let begin = region_of (start caps) in
      let entries = map (entry_after split f caps events t) (numbers_from 0 t) in
      let e : t ≡ t - 0 = omega arith in
      let last = region_after split f caps t t in
      let done : judge_steps caps limit events f 7 t begin entries ≡ Ok (region_of last) =
      ap (λ (u : ℕ). judge_steps caps limit events f 7 u begin entries) e ∙ steps-judged split t 7 0 t most closed (omega arith) in
      let one : states_of (region_of last) ≡ state ∷ [] =
      states_of-region split caps last (kept-after split caps f t t closed)
      ∙ (ap (λ (a : Area). a.states) (region_after-whole split caps f t) ∙ single-list (region_at split f caps t).states state ends) in
      rw (
        eq-eqb h.queues (length caps) queues,
        le-leb t (2 ^ limit) few,
        within-judged split caps (start caps) (kept-start split caps),
        whole-judged split caps,
        done,
        end-judged (7 + t) (region_of last) state one,
      ) refl

  -- and it is a log
  pub recorded-log : (split : ℕ) (h : Head) (state : List ℕ) → AreCapacities caps → split ≤ 4096 → AreClosed caps f → ((t : ℕ) → events t ≤ 1024)
      → h.version ≡ 2 → h.queues ≡ length caps → h.seed < 2 ^ 64 → h.stream < 2 ^ 64 → 1 ≤ h.horizon → h.horizon ≤ 4194304
      → ending_at split f caps h.horizon ≡ Some state → IsLog (recorded split f caps events h state)
  unfolding recorded
  recorded-log split h state valid most closed named version queues seed stream some few ends =
      let t = h.horizon in
      let entry = entry_after split f caps events t in
      let least = valid.some in
      let greatest = valid.few in
      let range : greatest_horizon h.version ≡ 4194304 = ap (λ v. greatest_horizon v) version in
      record {
        header = record {
          version = inr version;
          some = omega arith;
          few = omega arith;
          seed = seed;
          stream = stream;
          least = some;
          most = omega arith;
        };
        begin = subst (λ (q : ℕ). IsRegion q (region_of (start caps))) (sym queues) (region_of-region split caps (start caps) valid most (kept-start split caps));
        count = length-map (numbers_from 0 t) entry ∙ length-numbers 0 t;
        entries = λ e member.
            (let found = In-of_map entry e (numbers_from 0 t) member in
            let place = In-of_numbers_from found.0 0 t found.1 in
            let below = place.1 in
            let after = region_after split f caps t (suc found.0) in
            let region = region_of-region split caps after valid most (kept-after split caps f t (suc found.0) closed) in
            let own : IsEntry h (entry found.0) = record {
              least = omega arith;
              most = omega arith;
              event = named (t - found.0);
              region = subst (λ (q : ℕ). IsRegion q (region_of after)) (sym queues) region;
            } in
            subst (λ (d : Entry). IsEntry h d) (sym found.2) own);
        final = subst (λ (q : ℕ). IsState q state) (sym queues) (state-below caps state valid (ending-within split caps f t state closed ends));
      }

-- so it is accepted
pub logs-accepted : LogsAreAccepted
unfolding recorded
logs-accepted split f caps events limit h state runs head ends =
    let range : greatest_horizon h.version ≡ 4194304 = ap (λ v. greatest_horizon v) head.version in
    let most = head.header.most in
    let few : h.horizon ≤ 4194304 = omega arith in
    let kept = recorded-judged caps limit events f split h state runs.most runs.closed head.queues head.horizon ends in
    record {
      log = recorded-log caps limit events f split h state runs.valid runs.most runs.closed runs.numbered head.version head.queues head.header.seed head.header.stream head.header.least few ends;
      kept = kept;
      verdict = ap (λ (r : Result (Unit {0}) Refusal). verdict_of (recorded split f caps events h state) r) kept;
    }

-- the log of a network's run
pub events-few : {E : Type 0} (system : SystemParts E) (words : ℕ → ℕ) (t : ℕ) → length system.rates ≤ 1024 → event_numbers system words t ≤ 1024
unfolding event_of
events-few system words t few =
    let below : event_numbers system words t ≤ length system.rates = event_at-below system.rates (words (t - 1) % least_power (total system.rates)) in
    omega arith
