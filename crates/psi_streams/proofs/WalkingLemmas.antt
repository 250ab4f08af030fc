-- The path of the events that a sample runs is that of the network.
use Rattle.std.specs.Prelude.{◌≡◌, ℕ, zero, suc, ◌+◌, ◌-◌, ◌<◌, ℤ, pos, ◌+ℤ◌, List, [], ◌∷◌, map, length, slice_index, slice_index_or, Bool, ◌&&◌, not, nat_eq, if◌then◌else◌, refl}
use Rattle.std.specs.Cmp.Lexicographic.{pointwise}
use Rattle.std.proofs.Common.{sym, ap, ◌∙◌, subst, arith}
use Rattle.std.proofs.lemmas.List.{length-map}
use Rattle.psi_state.specs.State.{IsBelow}
use Rattle.psi_event.specs.Law.{Function}
use Rattle.psi_past.specs.SeedWord.{seed_word}
use Rattle.psi_reward.specs.Worth.{worth_of}
use Rattle.psi_rate.specs.Composition.{SystemParts, picked}
use Rattle.psi_path.specs.Path.{Path, first_place, path_of, state_of, event_after, is_changed}
use Rattle.psi_path.specs.Sums.{Worth, Sums, HasCounts, ArePathSums, worth_at, sum_until, integers_until, count_until, customers_until, worth_until, chosen_until, changed_until}
use Rattle.psi_net_model.specs.Network.{Network, NamedReward, caps_of, rates_of, functions_of}
use Rattle.psi_net_model.specs.Valid.{IsNetwork}
use Rattle.psi_net_model.specs.Made.{EachDoes}
use Rattle.psi_net_model.specs.declared.entries.Queue.{Queue}
use Rattle.psi_net_model.specs.declared.entries.NamedEvent.{NamedEvent}
use Rattle.psi_kinds.specs.Kinds.{do_kind}
use Rattle.psi_path_packed.proofs.AgreeLemmas.{walk-agrees}
use Rattle.psi_path_table.proofs.TableLemmas.{table-agree}
use Rattle.psi_reply.specs.Sample.{functions_by_time}
use Rattle.psi_reply.proofs.SamplingLemmas.{functions_by_time-closed, functions-alike}
use Rattle.psi_table.specs.Paths.{stream_path, worths_of, AreSumsFor, AreSumsOf}
use Rattle.psi_streams.specs.declared.walking.Way.{Way}
use Rattle.psi_streams.specs.declared.walking.Way.TheVariants.{Plain, Table, Packed}
use Rattle.psi_streams.specs.Ways.{Walks, IsWayOf}

-- ---- sums of what is the same at each time

sum-same : (g h : ℕ → ℕ) (n : ℕ) → ((k : ℕ) → g k ≡ h k) → sum_until g n ≡ sum_until h n
sum-same g h zero same = same zero
sum-same g h (suc n) same = ap (λ m. m + g (suc n)) (sum-same g h n same) ∙ ap (λ m. sum_until h n + m) (same (suc n))

integers-same : (g h : ℕ → ℤ) (n : ℕ) → ((k : ℕ) → g k ≡ h k) → integers_until g n ≡ integers_until h n
integers-same g h zero same = same zero
integers-same g h (suc n) same = ap (λ z. z +ℤ g (suc n)) (integers-same g h n same) ∙ ap (λ z. integers_until h n +ℤ z) (same (suc n))

count-same : (f g : ℕ → Bool) (n : ℕ) → ((k : ℕ) → f k ≡ g k) → count_until f n ≡ count_until g n
count-same f g zero same = refl
count-same f g (suc n) same =
    ap (λ m. m + (if f (suc n) then 1 else 0)) (count-same f g n same) ∙ ap (λ b. count_until g n + (if b then 1 else 0)) (same (suc n))

-- ---- functions that do what the network's kinds do, and the path of the network

module _ (net : Network) (seed stream : ℕ) (start : List ℕ) (kept : IsNetwork net) (within : IsBelow start (caps_of net)) (fs : List (List ℕ → List ℕ)) (does : EachDoes (caps_of net) fs net.events) where
  abbrev own : Path
  own = record { functions = fs; rates = rates_of net; words = seed_word seed stream; start = start }

  abbrev path : Path
  path = stream_path net seed stream start

  -- what the word at a place does to a state
  same-step : (place : ℕ) (x : List ℕ) → IsBelow x (caps_of net) → picked fs (rates_of net) (seed_word seed stream place) x ≡ picked (functions_of net) (rates_of net) (seed_word seed stream place) x
  unfolding functions_by_time
  same-step place x below =
      let e : suc place - 1 ≡ place = omega arith in
      subst (λ p. picked fs (rates_of net) (seed_word seed stream p) x ≡ picked (functions_of net) (rates_of net) (seed_word seed stream p) x) e
      (((functions-alike net seed stream fs kept does).1 (suc place)).each x below)

  step-below : (place : ℕ) (x : List ℕ) → IsBelow x (caps_of net) → IsBelow (picked (functions_of net) (rates_of net) (seed_word seed stream place) x) (caps_of net)
  unfolding functions_by_time
  step-below place x below =
      let e : suc place - 1 ≡ place = omega arith in
      subst (λ p. IsBelow (picked (functions_of net) (rates_of net) (seed_word seed stream p) x) (caps_of net)) e
      (((functions_by_time-closed net seed stream kept).each (suc place)).each x below)

  path-below : (k : ℕ) → IsBelow (state_of path k) (caps_of net)
  path-below zero = within
  path-below (suc k) = step-below (first_place + (suc k - 1)) (state_of path k) (path-below k)

  same-state : (k : ℕ) → state_of own k ≡ state_of path k
  same-state zero = refl
  same-state (suc k) =
      ap (λ (x : List ℕ). picked fs (rates_of net) (seed_word seed stream (first_place + (suc k - 1))) x) (same-state k)
      ∙ same-step (first_place + (suc k - 1)) (state_of path k) (path-below k)

  same-changed : (k : ℕ) → is_changed own k ≡ is_changed path k
  same-changed zero = refl
  same-changed (suc k) =
      ap (λ (x : List ℕ). not (pointwise nat_eq x (state_of own k))) (same-state (suc k)) ∙ ap (λ (x : List ℕ). not (pointwise nat_eq (state_of path (suc k)) x)) (same-state k)

  same-customers : (q n : ℕ) → customers_until own q n ≡ customers_until path q n
  same-customers q n = sum-same (λ k. slice_index (state_of own k) q) (λ k. slice_index (state_of path k) q) n (λ k. ap (λ (x : List ℕ). slice_index x q) (same-state k))

  same-worth : (worth : Worth) (n : ℕ) → worth_until own worth n ≡ worth_until path worth n
  same-worth worth n = integers-same (λ k. worth (state_of own k)) (λ k. worth (state_of path k)) n (λ k. ap worth (same-state k))

  same-changes : (e n : ℕ) → changed_until own e n ≡ changed_until path e n
  same-changes e n =
      count-same (λ k. nat_eq (event_after own k) e && is_changed own k) (λ k. nat_eq (event_after path k) e && is_changed path k) n
      (λ k. ap (λ b. nat_eq (event_after path k) e && b) (same-changed k))

each-count : (caps : List ℕ) (fs : List (List ℕ → List ℕ)) (events : List NamedEvent) → EachDoes caps fs events → length fs ≡ length events
each-count caps [] [] does = refl
each-count caps [] (event ∷ events) does = absurd does
each-count caps (f ∷ fs) [] does = absurd does
each-count caps (f ∷ fs) (event ∷ events) does = ap suc (each-count caps fs events does.1)

module _ {E : Type 0} (function : E → List ℕ → List ℕ) (system : SystemParts E) (net : Network) (caps : system.caps ≡ caps_of net) (does : EachDoes (caps_of net) (map function system.events) net.events) where
  queue-count : length system.caps ≡ length net.queues
  queue-count = ap (λ (xs : List ℕ). length xs) caps ∙ length-map net.queues (λ (q : Queue). q.capacity)

  reward-count : length (worths_of net) ≡ length net.rewards
  reward-count = length-map net.rewards (λ (r : NamedReward). worth_of r.kind)

  event-count : length system.events ≡ length net.events
  event-count = sym (length-map system.events function) ∙ each-count (caps_of net) (map function system.events) net.events does

  -- sums for the network are sums for the system
  pub counts_there : (sums : Sums) → AreSumsFor net sums → HasCounts (length system.caps) (length (worths_of net)) (length system.events) sums
  counts_there sums are = record {
    own_queues = are.own_queues ∙ sym queue-count;
    own_rewards = are.own_rewards ∙ sym reward-count;
    own_chosen = are.own_chosen ∙ sym event-count;
    own_changed = are.own_changed ∙ sym event-count;
  }

  pub counts_back : (sums : Sums) → HasCounts (length system.caps) (length (worths_of net)) (length system.events) sums → AreSumsFor net sums
  counts_back sums are = record {
    own_queues = are.own_queues ∙ queue-count;
    own_rewards = are.own_rewards ∙ reward-count;
    own_chosen = are.own_chosen ∙ event-count;
    own_changed = are.own_changed ∙ event-count;
  }

  -- the sums of the system's path are those of the network's
  module _ (seed stream steps : ℕ) (start : List ℕ) (kept : IsNetwork net) (within : IsBelow start (caps_of net)) (rates : system.rates ≡ rates_of net) (sums : Sums) where
    abbrev walked : Path
    walked = path_of function system (seed_word seed stream) start

    abbrev alike : Path
    alike = record { functions = map function system.events; rates = rates_of net; words = seed_word seed stream; start = start }

    is-alike : walked ≡ alike
    is-alike = ap (λ (rs : List ℕ). let p : Path = record { functions = map function system.events; rates = rs; words = seed_word seed stream; start = start } in p) rates

    pub sums_of : ArePathSums (length system.caps) (length (worths_of net)) (length system.events) (worths_of net) walked steps sums → AreSumsOf net (stream_path net seed stream start) steps sums
    sums_of are =
        let fs = map function system.events in record {
          queues = λ q small.
              are.queues q (let e = queue-count in omega arith) ∙ ap (λ (p : Path). customers_until p q steps) is-alike ∙ same-customers net seed stream start kept within fs does q steps;
          rewards = λ r small.
              are.rewards r (let e = reward-count in omega arith) ∙ ap (λ (p : Path). worth_until p (worth_at (worths_of net) r) steps) is-alike
              ∙ same-worth net seed stream start kept within fs does (worth_at (worths_of net) r) steps;
          chosen = λ e small. are.chosen e (let c = event-count in omega arith) ∙ ap (λ (p : Path). chosen_until p e steps) is-alike;
          changed = λ e small.
              are.changed e (let c = event-count in omega arith) ∙ ap (λ (p : Path). changed_until p e steps) is-alike ∙ same-changes net seed stream start kept within fs does e steps;
        }

-- ---- the ways of a network

-- an event's function does what its kind does
each-does : (caps : List ℕ) (fs : List (List ℕ → List ℕ)) (events : List NamedEvent) → EachDoes caps fs events → (e : ℕ) (x : List ℕ) → IsBelow x caps
    → slice_index_or fs e (λ y. y) x ≡ slice_index_or (map (λ event. do_kind caps event.kind) events) e (λ y. y) x
each-does caps [] [] does e x within = refl
each-does caps [] (event ∷ events) does e x within = absurd does
each-does caps (f ∷ fs) [] does e x within = absurd does
each-does caps (f ∷ fs) (event ∷ events) does zero x within = does.0.each x within
each-does caps (f ∷ fs) (event ∷ events) does (suc e) x within = each-does caps fs events does.1 e x within

-- functions that agree on all states have the same ways
ways-agree : (caps : List ℕ) (fs gs : List Function) → length fs ≡ length gs → ((e : ℕ) (x : List ℕ) → IsBelow x caps → slice_index_or fs e (λ y. y) x ≡ slice_index_or gs e (λ y. y) x)
    → (worths : List Worth) (way : Way) → Walks caps fs worths way → Walks caps gs worths way
ways-agree caps fs gs many each worths Plain is = tt
ways-agree caps fs gs many each worths (Table table) is = table-agree caps fs gs table many each is
ways-agree caps fs gs many each worths (Packed packed) is = walk-agrees caps fs gs (sym many) each worths packed is

-- a way of functions that do what the network's kinds do is one of the network
module _ {E : Type 0} (function : E → List ℕ → List ℕ) (system : SystemParts E) (net : Network) (caps : system.caps ≡ caps_of net) (does : EachDoes (caps_of net) (map function system.events) net.events) (way : Way) where
  abbrev own_functions : List Function
  own_functions = map function system.events

  as-many : length own_functions ≡ length (functions_of net)
  as-many = each-count (caps_of net) own_functions net.events does ∙ sym (length-map net.events (λ event. do_kind (caps_of net) event.kind))

  pub way_there : IsWayOf net way → Walks system.caps own_functions (worths_of net) way
  way_there is =
      subst (λ (cs : List ℕ). Walks cs own_functions (worths_of net) way) (sym caps)
      (ways-agree (caps_of net) (functions_of net) own_functions (sym as-many) (λ e x within. sym (each-does (caps_of net) own_functions net.events does e x within)) (worths_of net) way is)

  pub way_back : Walks system.caps own_functions (worths_of net) way → IsWayOf net way
  way_back is =
      ways-agree (caps_of net) own_functions (functions_of net) as-many (each-does (caps_of net) own_functions net.events does) (worths_of net) way
      (subst (λ (cs : List ℕ). Walks cs own_functions (worths_of net) way) caps is)
