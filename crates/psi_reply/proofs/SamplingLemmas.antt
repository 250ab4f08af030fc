-- The sample of a network.
use Rattle.std.specs.Prelude.{◌≡◌, ℕ, List, [], ◌∷◌, map, slice_index_or, All, Option, refl}
use Rattle.std.proofs.Common.{arith}
use Rattle.std.proofs.lemmas.List.Elements.{All-map}
use Rattle.std.proofs.lemmas.Grind.{common_steps}
use Rattle.psi_state.specs.declared.Outcome.{Outcome}
use Rattle.psi_past.specs.SeedWord.{seed_word}
use Rattle.psi_event.specs.Law.{IsClosed}
use Rattle.psi_rate.specs.Composition.{SystemParts, Functions, function_at, system_functions, AreClosed}
use Rattle.psi_rate.specs.Outcomes.{IsOutcome}
use Rattle.psi_rate.proofs.OutcomesLemmas.{outcome_within-is}
use Rattle.psi_rate.proofs.FunctionsLemmas.{function_at-closed}
use Rattle.psi_horizon.specs.Runs.{ending_at}
use Rattle.psi_horizon.specs.Agreeing.{Agree, AreAlike}
use Rattle.psi_horizon.proofs.AgreeingLemmas.{agree-back, alike-closed_at, function_at-agree, outcome_within-agree}
use Rattle.psi_horizon.proofs.SampleLemmas.{sample-is}
use Rattle.psi_kinds.specs.Kinds.{do_kind}
use Rattle.psi_kinds.proofs.ClosingLemmas.{kind-closed}
use Rattle.psi_net_model.specs.Network.{Network, caps_of, rates_of, functions_of}
use Rattle.psi_net_model.specs.Valid.{IsNetwork, IsAccepted}
use Rattle.psi_net_model.specs.Made.{EachDoes}
use Rattle.psi_net_model.specs.declared.entries.NamedEvent.{NamedEvent}
use Rattle.psi_net_model.proofs.QueueLemmas.{capacities_kept}
use Rattle.psi_io.specs.Sink.{appended}
use Rattle.psi_reply.specs.Texts.{outcome_text}
use Rattle.psi_reply.specs.Sample.{functions_by_time, sampled, outcome_status, IsDrawn, IsSampled}
use Rattle.psi_reply.specs.Networks.{IsSystemOf}

-- what the events of a network do, one after the other
abbrev pub done_by : List ℕ → List NamedEvent → List (List ℕ → List ℕ)
done_by caps events = map (λ e. do_kind caps e.kind) events

-- functions that do what the network's kinds do agree with them on the states
pub each-alike : (caps : List ℕ) (fs : List (List ℕ → List ℕ)) (events : List NamedEvent) → EachDoes caps fs events → AreAlike caps (done_by caps events) fs
each-alike caps [] [] does = record { same_length = refl; each = λ k small. absurd (omega arith) }
each-alike caps [] (event ∷ events) does = absurd does
each-alike caps (f ∷ fs) [] does = absurd does
each-alike caps (f ∷ fs) (event ∷ events) does = grind (arith, common_steps, (each-alike caps fs events does.1))

-- each event of a network makes states of states
done-closed : (n : Network) → IsNetwork n → All (λ f. IsClosed (caps_of n) f) (functions_of n)
done-closed n kept =
    All-map (IsClosed (caps_of n)) (λ e. do_kind (caps_of n) e.kind) n.events
    (λ k d small. (let is : IsAccepted (caps_of n) (slice_index_or n.events k d).kind = kept.kinds k d small in
    kind-closed (caps_of n) (slice_index_or n.events k d).kind (capacities_kept n.queues kept.queues) is.named is.accepted))

pub functions_by_time-closed : (n : Network) (seed stream : ℕ) → IsNetwork n → AreClosed (caps_of n) (functions_by_time n seed stream)
unfolding functions_by_time
functions_by_time-closed n seed stream kept = function_at-closed (caps_of n) (functions_of n) (rates_of n) (seed_word seed stream) (done-closed n kept)

-- functions that do what the network's kinds do are those of the network at each time
pub functions-alike : (n : Network) (seed stream : ℕ) (fs : List (List ℕ → List ℕ)) → IsNetwork n → EachDoes (caps_of n) fs n.events
    → AreClosed (caps_of n) (function_at fs (rates_of n) (seed_word seed stream))
    × ((t : ℕ) → Agree (caps_of n) (function_at fs (rates_of n) (seed_word seed stream) t) (functions_by_time n seed stream t))
unfolding functions_by_time
functions-alike n seed stream fs kept does =
    let alike = each-alike (caps_of n) fs n.events does in (
      alike-closed_at (caps_of n) (functions_of n) fs (rates_of n) (seed_word seed stream) (functions_by_time-closed n seed stream kept) alike,
      λ t. agree-back (caps_of n) (functions_by_time n seed stream t) (function_at fs (rates_of n) (seed_word seed stream) t)
          (function_at-agree (caps_of n) (functions_of n) fs (rates_of n) (seed_word seed stream) alike t),
    )

-- what holds of a network with functions by time that agree with its own on its states
pub record HoldsAlike (n : Network) (seed stream : ℕ) (P : ℕ → Functions → List ℕ → ℕ → Type 0) : Type 0 where
  pub by_time : Functions
  pub closed : AreClosed (caps_of n) by_time
  pub agree : (t : ℕ) → Agree (caps_of n) (by_time t) (functions_by_time n seed stream t)
  pub holds : P n.split by_time (caps_of n) n.limit

-- what holds of a system's parts, with the functions of its events by time, holds so of the network's that it is
pub of_network : {E : Type 0} (function : E → List ℕ → List ℕ) (system : SystemParts E) (n : Network) (seed stream : ℕ) (P : ℕ → Functions → List ℕ → ℕ → Type 0)
    → IsNetwork n → IsSystemOf function n system → P system.split (system_functions function system (seed_word seed stream)) system.caps system.limit → HoldsAlike n seed stream P
of_network function system n seed stream P kept is holds =
    let fs = map function system.events in
    let alike = functions-alike n seed stream fs kept is.functions in
    record {
      by_time = function_at fs (rates_of n) (seed_word seed stream);
      closed = alike.0;
      agree = alike.1;
      holds = rw (← is.split, ← is.limit, ← is.caps, ← is.rates) holds;
    }

-- the sample of a system that is made of the network is the network's
pub sampled_by : {E : Type 0} (function : E → List ℕ → List ℕ) (system : SystemParts E) (n : Network) (seed stream : ℕ) (o : Outcome)
    → IsNetwork n → IsSystemOf function n system
    → IsOutcome (ending_at system.split (system_functions function system (seed_word seed stream)) system.caps) system.limit o → o ≡ sampled n seed stream
unfolding sampled
sampled_by function system n seed stream o kept of is =
    let own = of_network function system n seed stream (λ k f cs l. IsOutcome (ending_at k f cs) l o) kept of is in
    outcome_within-agree n.split (caps_of n) own.by_time (functions_by_time n seed stream) n.limit o own.closed own.agree own.holds

-- the sample is that of coupling from the past
pub sampled-drawn : (n : Network) (seed stream : ℕ) → IsNetwork n → IsDrawn n seed stream (sampled n seed stream)
unfolding functions_by_time sampled
sampled-drawn n seed stream kept = grind (arith, common_steps, sample-is, functions_by_time-closed, outcome_within-is)

-- what is printed of a network's sample is a sample's text
pub sampled_printed : (before after : Option (List ℕ)) (n : Network) (seed stream : ℕ) → IsNetwork n
    → after ≡ appended before (outcome_text (sampled n seed stream)) → IsSampled before after (outcome_status (sampled n seed stream)) n seed stream
sampled_printed before after n seed stream kept grew = grind (arith, common_steps, sampled-drawn)
