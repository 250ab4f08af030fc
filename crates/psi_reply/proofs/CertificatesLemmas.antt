-- The log of a run of a network, which the network accepts.
use Rattle.std.specs.Prelude.{◌≡◌, ℕ, zero, suc, ◌-◌, ◌^◌, ◌<◌, ◌≤◌, List, ◌∷◌, map, Some, Ok, refl}
use Rattle.std.proofs.Common.{ap, ◌∙◌, arith}
use Rattle.std.proofs.lemmas.Grind.{common_steps}
use Rattle.psi_state.specs.State.{numbers_from}
use Rattle.psi_past.specs.SeedWord.{seed_word}
use Rattle.psi_rate.specs.Rates.{event_of}
use Rattle.psi_rate.specs.Composition.{SystemParts, Functions, AreClosed, function_at}
use Rattle.psi_rate.proofs.RatesLemmas.{event_at-below}
use Rattle.psi_rate.proofs.PowersLemmas.{pow-order}
use Rattle.psi_region.specs.Region.{Area, start, IsArea}
use Rattle.psi_region.proofs.RegionLemmas.{start-area, step-area}
use Rattle.psi_horizon.specs.Runs.{region_after, ending_at}
use Rattle.psi_horizon.specs.Agreeing.{Agree}
use Rattle.psi_horizon.proofs.AgreeingLemmas.{step-agree}
use Rattle.psi_log_format.specs.declared.header.Header.{Header}
use Rattle.psi_log_format.specs.Log.{Entry, Certificate, IsLog}
use Rattle.psi_log_format.specs.Text.{IsLogOf}
use Rattle.psi_log.proofs.ReadLemmas.{read_again}
use Rattle.psi_log_writer.specs.Recorded.{region_of, entry_after, recorded, header_of, log_of}
use Rattle.psi_log_writer.proofs.AcceptedLemmas.{recorded-log, recorded-judged}
use Rattle.psi_replay.specs.Verdict.{verdict_of}
use Rattle.psi_net_model.proofs.QueueLemmas.{capacities_kept}
use Rattle.psi_net_model.specs.Network.{Network, caps_of, rates_of}
use Rattle.psi_net_model.specs.Valid.{IsNetwork}
use Rattle.psi_command.specs.declared.status.Status.TheVariants as status
use Rattle.psi_reply.specs.Sample.{functions_by_time}
use Rattle.psi_reply.specs.Networks.{IsSystemOf}
use Rattle.psi_reply.specs.Replay.{events_by_time, judgement}
use Rattle.psi_reply.specs.Texts.{accepted_text}
use Rattle.psi_reply.specs.Certify.{certificate}
use Rattle.psi_program.specs.Reply.{text_reply}
use Rattle.psi_reply.specs.Reply.{verdict_reply, judged_log, replay_reply}
use Rattle.psi_reply.proofs.SamplingLemmas.{functions_by_time-closed, functions-alike}

-- ---- functions that agree on the states within the capacities

module _ (split : ℕ) (caps : List ℕ) (f g : Functions) (closed : AreClosed caps f) (agree : (k : ℕ) → Agree caps (f k) (g k)) where
  after-area : (horizon done : ℕ) → IsArea caps (region_after split f caps horizon done)
  after-area horizon zero = start-area caps
  after-area horizon (suc done) = step-area split caps (f (horizon - done)) (region_after split f caps horizon done) (closed.each (horizon - done)) (after-area horizon done)

  after-agree : (horizon done : ℕ) → region_after split f caps horizon done ≡ region_after split g caps horizon done
  after-agree horizon zero = refl
  after-agree horizon (suc done) = grind (arith, common_steps, step-agree, after-area, (after-agree horizon done))

  entries-agree : (events : ℕ → ℕ) (horizon first count : ℕ) → map (entry_after split f caps events horizon) (numbers_from first count) ≡ map (entry_after split g caps events horizon) (numbers_from first count)
  entries-agree events horizon first zero = refl
  entries-agree events horizon first (suc count) =
      ap (λ (a : Area). Entry-of a ∷ map (entry_after split f caps events horizon) (numbers_from (suc first) count)) (after-agree horizon (suc first))
      ∙ ap (λ (es : List Entry). entry_after split g caps events horizon first ∷ es) (entries-agree events horizon (suc first) count)
    where
      Entry-of : Area → Entry
      Entry-of a = record { step = record { number = horizon - first; event = events (horizon - first) }; region = region_of a }

  recorded-agree : (events : ℕ → ℕ) (h : Header) (state : List ℕ) → recorded split f caps events h state ≡ recorded split g caps events h state
  unfolding recorded
  recorded-agree events h state =
      ap (λ (es : List Entry). record { header = h; begin = region_of (start caps); entries = es; final = state }) (entries-agree events h.horizon 0 h.horizon)

-- the log of a system that is the network's is that of the network
pub log-by : {E : Type 0} (function : E → List ℕ → List ℕ) (system : SystemParts E) (n : Network) (seed stream horizon : ℕ) (state : List ℕ) → IsNetwork n → IsSystemOf function n system
    → log_of function system (seed_word seed stream) (header_of (caps_of n) seed stream horizon) state ≡ certificate n seed stream horizon state
unfolding certificate events_by_time
log-by function system n seed stream horizon state kept of =
    let fs = map function system.events in
    let words = seed_word seed stream in
    let alike = functions-alike n seed stream fs kept of.functions in
    let h = header_of (caps_of n) seed stream horizon in
    let At : ℕ → List ℕ → List ℕ → Certificate = λ split caps rates. recorded split (function_at fs rates words) caps (λ t. event_of rates (words (t - 1))) h state in
    ap (λ k. At k system.caps system.rates) of.split ∙ ap (λ cs. At n.split cs system.rates) of.caps ∙ ap (λ rs. At n.split (caps_of n) rs) of.rates
    ∙ recorded-agree n.split (caps_of n) (function_at fs (rates_of n) words) (functions_by_time n seed stream) alike.0 alike.1 (λ t. event_of (rates_of n) (words (t - 1))) h state

-- ---- the log of a run that ends with one state is one, and it breaks no rule of the network

module _ (n : Network) (seed stream : ℕ) (kept : IsNetwork n) (small : seed < 2 ^ 64) (less : stream < 2 ^ 64) (horizon : ℕ) (state : List ℕ)
    (ends : ending_at n.split (functions_by_time n seed stream) (caps_of n) horizon ≡ Some state) (some : 1 ≤ horizon) (within : horizon ≤ 2 ^ n.limit) where
  fits : horizon ≤ 4194304
  fits = (let greatest : 2 ^ n.limit ≤ 2 ^ 22 = pow-order n.limit 22 kept.limit in omega arith)

  few-events : (t : ℕ) → events_by_time n seed stream t ≤ 1024
  unfolding events_by_time event_of
  few-events t = grind (arith, common_steps, event_at-below)

  pub certificate_log : IsLog (certificate n seed stream horizon state)
  unfolding certificate
  certificate_log =
      recorded-log (caps_of n) n.limit (events_by_time n seed stream) (functions_by_time n seed stream) n.split (header_of (caps_of n) seed stream horizon) state
      (capacities_kept n.queues kept.queues) kept.most_split (functions_by_time-closed n seed stream kept) few-events refl refl small less some fits ends

  certificate-kept : judgement n (certificate n seed stream horizon state) ≡ Ok tt
  unfolding judgement certificate recorded
  certificate-kept =
      recorded-judged (caps_of n) n.limit (events_by_time n seed stream) (functions_by_time n seed stream) n.split (header_of (caps_of n) seed stream horizon) state
      kept.most_split (functions_by_time-closed n seed stream kept) refl within ends

  certificate-told : verdict_reply (verdict_of (certificate n seed stream horizon state) (Ok tt)) ≡ text_reply status.Done (accepted_text horizon state)
  unfolding certificate recorded
  certificate-told = refl

  certificate-answered : judged_log n (Ok (certificate n seed stream horizon state)) ≡ text_reply status.Done (accepted_text horizon state)
  certificate-answered = grind (arith, common_steps, certificate-kept, certificate-told)

  -- so a replay of its text tells the horizon and the state
  pub certificate_replayed : (text : List ℕ) → IsLogOf text (certificate n seed stream horizon state) → replay_reply n text ≡ text_reply status.Done (accepted_text horizon state)
  certificate_replayed text is = ap (judged_log n) (read_again text (certificate n seed stream horizon state) is) ∙ certificate-answered
