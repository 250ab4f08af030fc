-- The chain and the samples of events on all states.
use Rattle.std.specs.Prelude.{◌≡◌, ℕ, zero, suc, ◌+◌, ◌^◌, ◌<◌, ◌≤◌, ◌↔◌, List, [], ◌∷◌, length, map, slice_index_or, All, Bool, true, Some, refl}
use Rattle.std.proofs.Common.{ap, sym, ◌∙◌, subst, arith}
use Rattle.std.proofs.lemmas.Bool.{le-leb, or_right}
use Rattle.std.proofs.lemmas.List.{length-map}
use Rattle.std.proofs.lemmas.List.Elements.{All-map}
use Rattle.std.proofs.lemmas.Grind.{common_steps}
use Rattle.psi_state.specs.declared.Outcome.{Outcome}
use Rattle.psi_state.specs.State.{all_states, zeros}
use Rattle.psi_state.specs.Sets.{single}
use Rattle.psi_state.proofs.AscendingLemmas.{box-rising, rising-distinct}
use Rattle.psi_state.proofs.BoxesLemmas.{In-all_states, In-of_all_states}
use Rattle.psi_state.proofs.StatesLemmas.{In-caps}
use Rattle.psi_event.specs.Law.{IsClosed, IsMonotone}
use Rattle.psi_kinds.specs.Kinds.{do_kind}
use Rattle.psi_kinds.proofs.ClosingLemmas.{kind-closed}
use Rattle.psi_rate.specs.Rates.{AreRates}
use Rattle.psi_rate.specs.Composition.{SystemParts, Functions, function_at, compose}
use Rattle.psi_rate.specs.System.{IsSystem}
use Rattle.psi_rate.specs.Outcomes.{outcome_within}
use Rattle.psi_rate.proofs.OutcomesLemmas.{outcome_within-is, outcome_within-only}
use Rattle.psi_rate.proofs.FunctionsLemmas.{function_at-closed}
use Rattle.psi_region.specs.Region.{Area, start, step}
use Rattle.psi_region.proofs.RegionLemmas.{step-split}
use Rattle.psi_horizon.specs.Runs.{follow, ending_at}
use Rattle.psi_horizon.specs.Sample.{IsSample}
use Rattle.psi_horizon.proofs.RunsLemmas.{endings-last, ending-reached}
use Rattle.psi_horizon.proofs.SampleLemmas.{sample-is}
use Rattle.psi_net_model.specs.Network.{Network, caps_of, rates_of, functions_of}
use Rattle.psi_net_model.specs.Valid.{IsNetwork, IsAccepted}
use Rattle.psi_net_model.proofs.QueueLemmas.{capacities_kept}
use Rattle.psi_law.specs.Counting.{Words}
use Rattle.psi_law.specs.Chains.{Chain, IsChain}
use Rattle.psi_law.specs.Statements.{UnmetIsApart}
use Rattle.psi_law.specs.Networks.{chain_of, sample_of, network_chain, network_sample}
use Rattle.psi_law.proofs.CoalescenceLemmas.{single-list, AreRuns}
use Rattle.psi_law.proofs.FallsLemmas.{unmet-apart}
use Rattle.psi_law.proofs.LawfulLemmas.{AreLawful, runs-lawful}

-- a run looks at the functions of its own steps alone
pub follow-first : (split : ℕ) (f g : Functions) (t : ℕ) (a : Area) → ((k : ℕ) → k < t → f (suc k) ≡ g (suc k)) → follow split f t a ≡ follow split g t a
follow-first split f g zero a same = refl
follow-first split f g (suc t) a same = rw (same t (omega arith)) (follow-first split f g t (step split (g (suc t)) a) (λ k small. same k (omega arith)))

-- the older steps of a run come first
follow-append : (split : ℕ) (f : Functions) (n k : ℕ) (a : Area) → follow split f (n + k) a ≡ follow split f n (follow split (λ i. f (n + i)) k a)
follow-append split f n zero a = (let e : n + zero ≡ n = omega arith in ap (λ m. follow split f m a) e)
follow-append split f n (suc k) a = grind (arith, common_steps, (follow-append split f n k (step split (f (suc (n + k))) a)))

-- a region of one state stays one
follow-one : (split : ℕ) (f : Functions) (t : ℕ) (b : Bool) (s : List ℕ) → 1 ≤ split → (follow split f t (record { is_split = b; states = s ∷ [] })).states ≡ compose f t s ∷ []
follow-one split f zero b s some = refl
follow-one split f (suc t) b s some = grind (arith, common_steps, step-split, or_right, le-leb, (follow-one split f t true (f (suc t) s) some))

one-older : (split : ℕ) (caps : List ℕ) (f : Functions) (n k : ℕ) (s : List ℕ) → 1 ≤ split → ending_at split (λ i. f (n + i)) caps k ≡ Some s
    → ending_at split f caps (n + k) ≡ Some (compose f n s)
one-older split caps f n k s some met = grind (arith, common_steps, follow-append, single-list, follow-one)

-- what is proved of the samples of events on all states of these capacities alone
pub record AreSampled (caps : List ℕ) (functions : List (List ℕ → List ℕ)) (rates : List ℕ) (split limit : ℕ) (chain : Chain) (sample : Words → Outcome) : Type 0 where
  pub monotone : All (IsMonotone caps) functions → UnmetIsApart chain sample (2 ^ limit)
  pub small : length (all_states caps) ≤ split → UnmetIsApart chain sample (2 ^ limit)
  pub promised : (past : Words) (o : Outcome) → IsSample caps functions rates limit split past o ↔ (o ≡ sample past)

-- functions that make states of these capacities of such states, with rates of a wheel
module _ (caps : List ℕ) (functions : List (List ℕ → List ℕ)) (rates : List ℕ) (closed : All (IsClosed caps) functions) (rated : AreRates rates) (count : length rates ≡ length functions) where
  -- their chain on all states
  abbrev chain_on_all : Chain
  chain_on_all = record { functions = functions; rates = rates; states = all_states caps }

  all-chain : IsChain chain_on_all
  all-chain = record {
    finite = record {
      some = (caps, In-caps caps);
      distinct = rising-distinct (all_states caps) (box-rising (zeros caps) caps);
      keeps = λ e d small. record { each = λ x member. In-all_states caps (slice_index_or functions e d x) ((closed e d small).each x (In-of_all_states caps x member)) };
    };
    rated = rated;
    same_count = count;
  }

  -- their region runs with a split number, and the samples of these with a limit
  module _ (split limit : ℕ) (some : 1 ≤ split) where
    abbrev all_sample : Words → Outcome
    all_sample past = outcome_within (ending_at split (function_at functions rates past) caps) limit

    all-runs : AreRuns chain_on_all (λ f. ending_at split f caps)
    all-runs = record {
      looks = λ f g t same. ap (λ (a : Area). single a.states) (follow-first split f g t (start caps) same);
      last = λ past. endings-last split caps (function_at functions rates past) (function_at-closed caps functions rates past closed);
      older = λ past n k s met. (compose (function_at functions rates past) n s, one-older split caps (function_at functions rates past) n k s some met);
      ends = λ past n s x met own.
          (ending-reached split caps (function_at functions rates past) n s (function_at-closed caps functions rates past closed) met).each x n (In-of_all_states caps x own) (omega arith);
    }

    all-lawful : AreLawful chain_on_all (λ f. ending_at split f caps) limit
    all-lawful = runs-lawful chain_on_all (λ f. ending_at split f caps) limit all-chain all-runs

    -- they are the samples that a plan promises
    all-samples : (past : Words) (o : Outcome) → IsSample caps functions rates limit split past o ↔ (o ≡ all_sample past)
    all-samples past o = (
      λ sample. outcome_within-only (ending_at split (function_at functions rates past) caps) limit o sample.least,
      λ same. subst (λ (p : Outcome). IsSample caps functions rates limit split past p) (sym same)
          (sample-is caps functions rates limit split past (all_sample past) (function_at-closed caps functions rates past closed)
          (outcome_within-is (ending_at split (function_at functions rates past) caps) limit)),
    )

    -- where such a sample is that of all states' meetings, what isn't met is what leaves states apart
    all-sampled : AreSampled caps functions rates split limit chain_on_all all_sample
    all-sampled = record {
      monotone = λ monotone. unmet-apart chain_on_all all-chain.finite all_sample limit (λ past. ((all-samples past (all_sample past)).1 refl).monotone monotone);
      small = λ few. unmet-apart chain_on_all all-chain.finite all_sample limit (λ past. ((all-samples past (all_sample past)).1 refl).small few);
      promised = all-samples;
    }

-- the events of a system
system-closed : {E : Type 0} (capacities : E → List ℕ) (function : E → List ℕ → List ℕ) (system : SystemParts E) → IsSystem capacities system
    → ((event : E) → IsClosed (capacities event) (function event)) → All (IsClosed system.caps) (map function system.events)
system-closed capacities function system fit closed =
    All-map (IsClosed system.caps) function system.events
    (λ k d small. subst (λ (caps : List ℕ). IsClosed caps (function (slice_index_or system.events k d))) (fit.same_caps k d small) (closed (slice_index_or system.events k d)))

module _ {E : Type 0} (capacities : E → List ℕ) (function : E → List ℕ → List ℕ) (system : SystemParts E) (fit : IsSystem capacities system)
    (closed : (event : E) → IsClosed (capacities event) (function event)) where
  pub system-lawful : AreLawful (chain_of function system) (λ f. ending_at system.split f system.caps) system.limit
  system-lawful =
      all-lawful system.caps (map function system.events) system.rates (system-closed capacities function system fit closed) fit.rated (fit.same_count ∙ sym (length-map system.events function))
      system.split system.limit fit.some_split

  pub system-sampled : AreSampled system.caps (map function system.events) system.rates system.split system.limit (chain_of function system) (sample_of function system)
  system-sampled =
      all-sampled system.caps (map function system.events) system.rates (system-closed capacities function system fit closed) fit.rated (fit.same_count ∙ sym (length-map system.events function))
      system.split system.limit fit.some_split

-- and those of a network
module _ (net : Network) (kept : IsNetwork net) where
  pub network-closed : All (IsClosed (caps_of net)) (functions_of net)
  network-closed =
      All-map (IsClosed (caps_of net)) (λ e. do_kind (caps_of net) e.kind) net.events
      (λ k d small. (let is : IsAccepted (caps_of net) (slice_index_or net.events k d).kind = kept.kinds k d small in
      kind-closed (caps_of net) (slice_index_or net.events k d).kind (capacities_kept net.queues kept.queues) is.named is.accepted))

  pub rates-count : length (rates_of net) ≡ length (functions_of net)
  rates-count = length-map net.events (λ e. e.rate) ∙ sym (length-map net.events (λ e. do_kind (caps_of net) e.kind))

  pub network-runs : AreRuns (network_chain net) (λ f. ending_at net.split f (caps_of net))
  network-runs = all-runs (caps_of net) (functions_of net) (rates_of net) network-closed kept.rates rates-count net.split net.limit kept.some_split

  pub network-lawful : AreLawful (network_chain net) (λ f. ending_at net.split f (caps_of net)) net.limit
  network-lawful = all-lawful (caps_of net) (functions_of net) (rates_of net) network-closed kept.rates rates-count net.split net.limit kept.some_split

  pub network-sampled : AreSampled (caps_of net) (functions_of net) (rates_of net) net.split net.limit (network_chain net) (network_sample net)
  network-sampled = all-sampled (caps_of net) (functions_of net) (rates_of net) network-closed kept.rates rates-count net.split net.limit kept.some_split
