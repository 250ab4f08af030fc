-- The rules of a log, for a network's events: functions that do the same with each state give the same verdict.
use Rattle.std.specs.Prelude.{◌≡◌, ℕ, ◌+◌, ◌-◌, List, [], ◌∷◌, map, Bool, true, false, Result, Ok, Err, refl}
use Rattle.std.specs.List.{list_all}
use Rattle.std.proofs.Common.{arith, inl, inr, ap, ◌∙◌, subst}
use Rattle.std.proofs.lemmas.Grind.{common_steps}
use Rattle.psi_state.specs.Members.{In}
use Rattle.psi_past.specs.SeedWord.{seed_word}
use Rattle.psi_rate.specs.Rates.{event_of}
use Rattle.psi_rate.specs.Composition.{SystemParts, Functions, function_at, system_functions}
use Rattle.psi_horizon.specs.Agreeing.{Agree}
use Rattle.psi_log_format.specs.Log.{LogRegion, Entry, Certificate, IsLog}
use Rattle.psi_log_words.specs.Refusal.{Refusal, ◌>>=◌, holds_or}
use Rattle.psi_net_model.specs.Network.{Network, caps_of, rates_of}
use Rattle.psi_net_model.specs.Valid.{IsNetwork}
use Rattle.psi_replay.specs.declared.answers.Verdict.{Verdict}
use Rattle.psi_replay.specs.Verdict.{covers, is_within, judge_step, judge_steps, judged, event_numbers, verdict_of}
use Rattle.psi_replay.proofs.RegionLemmas.{within_each}
use Rattle.psi_replay.proofs.AcceptedLemmas.{next_rule, judged_reached, judged_within}
use Rattle.psi_reply.specs.Sample.{functions_by_time}
use Rattle.psi_reply.specs.Networks.{IsSystemOf}
use Rattle.psi_reply.specs.Replay.{events_by_time, judgement, Certifies}
use Rattle.psi_reply.proofs.SamplingLemmas.{functions_by_time-closed, functions-alike}

-- a log that is accepted certifies its state
pub judged_certifies : (net : Network) (c : Certificate) → IsNetwork net → IsLog c → judgement net c ≡ Ok tt → Certifies net c
unfolding judgement
judged_certifies net c network log kept =
    let f = functions_by_time net c.header.seed c.header.stream in
    let events = events_by_time net c.header.seed c.header.stream in
    let closed = functions_by_time-closed net c.header.seed c.header.stream network in
    record {
      kept = kept;
      reached = judged_reached (caps_of net) net.limit events f c tt kept log closed;
      within = judged_within (caps_of net) net.limit events f c tt kept log closed;
    }

-- ---- functions that agree on the states within the capacities

-- two tests that agree on the members of a list agree on the list
all-agree : {X : Type 0} (p q : X → Bool) (xs : List X) → ((x : X) → In x xs → p x ≡ q x) → list_all p xs ≡ list_all q xs
all-agree p q [] same = refl
all-agree p q (x ∷ xs) same = rw (same x (inl refl), all-agree p q xs (λ y member. same y (inr member))) refl

-- what follows a rule is the same where it is so once the rule holds
rule-agree : {B : Type 0} (refusal : Refusal) (b : Bool) (h k : Unit {0} → Result B Refusal) → (b ≡ true → h tt ≡ k tt) → (holds_or refusal b >>= h) ≡ (holds_or refusal b >>= k)
rule-agree refusal true h k same = same refl
rule-agree refusal false h k same = refl

-- and so is what follows a reading
then-agree : {A B : Type 0} (r : Result A Refusal) (h k : A → Result B Refusal) → ((a : A) → r ≡ Ok a → h a ≡ k a) → (r >>= h) ≡ (r >>= k)
then-agree (Ok a) h k same = same a refl
then-agree (Err refusal) h k same = refl

module _ (caps : List ℕ) (limit : ℕ) (events : ℕ → ℕ) (f g : Functions) where
  covers-agree : (t : ℕ) (before after : LogRegion) → Agree caps (f t) (g t) → is_within caps before ≡ true → covers (f t) before after ≡ covers (g t) before after
  covers-agree t before after agree within = grind (arith, common_steps, all-agree, within_each)

  step-agree : (n t : ℕ) (before : LogRegion) (e : Entry) → Agree caps (f t) (g t) → is_within caps before ≡ true
      → judge_step caps limit events f n t before e ≡ judge_step caps limit events g n t before e
  unfolding judge_step
  step-agree n t before e agree within = grind (arith, common_steps, covers-agree)

  -- the region after a step that breaks no rule is within the capacities
  step-within : (n t : ℕ) (before : LogRegion) (e : Entry) (u : Unit {0}) → judge_step caps limit events f n t before e ≡ Ok u → is_within caps e.region ≡ true
  unfolding judge_step
  step-within n t before e u is = grind (arith, common_steps, next_rule)

  steps-agree : (n t : ℕ) (before : LogRegion) (es : List Entry) → ((k : ℕ) → Agree caps (f k) (g k)) → is_within caps before ≡ true
      → judge_steps caps limit events f n t before es ≡ judge_steps caps limit events g n t before es
  unfolding judge_steps
  steps-agree n t before [] agree within = refl
  steps-agree n t before (e ∷ es) agree within =
      let more : Functions → Unit {0} → Result LogRegion Refusal = λ h _. judge_steps caps limit events h (n + 1) (t - 1) e.region es in
      then-agree (judge_step caps limit events f n t before e) (more f) (more g)
      (λ u kept. steps-agree (n + 1) (t - 1) e.region es agree (step-within n t before e u kept))
      ∙ ap (λ (r : Result (Unit {0}) Refusal). r >>= more g) (step-agree n t before e (agree t) within)

  judged-agree : (c : Certificate) → ((k : ℕ) → Agree caps (f k) (g k)) → judged caps limit events f c ≡ judged caps limit events g c
  unfolding judged
  judged-agree c agree = grind (arith, common_steps, rule-agree, steps-agree)

-- the verdict of a system that is the network's is that of the network
pub judged_by : {E : Type 0} (function : E → List ℕ → List ℕ) (system : SystemParts E) (net : Network) (c : Certificate) (v : Verdict) → IsNetwork net → IsSystemOf function net system
    → (let words = seed_word c.header.seed c.header.stream in v ≡ verdict_of c (judged system.caps system.limit (event_numbers system words) (system_functions function system words) c))
    → v ≡ verdict_of c (judgement net c)
unfolding judgement events_by_time
judged_by function system net c v network of is =
    let words = seed_word c.header.seed c.header.stream in
    let fs = map function system.events in
    let alike = functions-alike net c.header.seed c.header.stream fs network of.functions in
    let At : List ℕ → List ℕ → ℕ → Type 0 = λ rates caps limit. v ≡ verdict_of c (judged caps limit (λ t. event_of rates (words (t - 1))) (function_at fs rates words) c) in
    let own : At (rates_of net) (caps_of net) net.limit =
    subst (λ l. At (rates_of net) (caps_of net) l) of.limit (subst (λ cs. At (rates_of net) cs system.limit) of.caps (subst (λ rs. At rs system.caps system.limit) of.rates is)) in
    own ∙ ap (verdict_of c) (judged-agree (caps_of net) net.limit (λ t. event_of (rates_of net) (words (t - 1))) (function_at fs (rates_of net) words)
    (functions_by_time net c.header.seed c.header.stream) c alike.1)
