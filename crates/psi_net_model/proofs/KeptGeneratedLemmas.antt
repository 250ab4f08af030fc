-- The network of every number can be sampled.
use Rattle.std.proofs.Common.{◌≡◌, ℕ, zero, suc, ◌+◌, ◌-◌, ◌*◌, ◌<◌, ◌≤◌, ℤ, pos, List, [], ◌∷◌, ◌++◌, length, map, replicate, slice_index, get_or, All, IfSome, false, nat_eq, Option, Some, None, refl, sym, ◌∙◌, arith, length-append}
use Rattle.std.specs.List.{list_any, flat_map}
use Rattle.std.proofs.lemmas.Nat.{mod_below}
use Rattle.std.proofs.Math.Nat.{mul-le-mul}
use Rattle.std.proofs.lemmas.Bool.{eq-eqb}
use Rattle.std.proofs.lemmas.List.{get_or-map, length-map, length-replicate}
use Rattle.std.proofs.lemmas.List.Elements.{All-nil, All-cons, All-head, All-tail, All-append, All-map, All-replicate}
use Rattle.psi_state.specs.State.{AreCapacities, numbers_from}
use Rattle.psi_rate.specs.Rates.{total}
use Rattle.psi_route.specs.declared.Source.{Source}
use Rattle.psi_route.specs.declared.Full.TheVariants.{Lost}
use Rattle.psi_kinds.specs.declared.Kind.TheVariants.{Arrival, Service, Batch, Negative}
use Rattle.psi_state.specs.Repeats.{repeats}
use Rattle.psi_reward.specs.Refusing.{IsSmall, is_none_listed}
use Rattle.psi_reward.specs.declared.RewardKind.TheVariants.{Linear}
use Rattle.psi_net_model.specs.Expansion.{source_of, servers_at, expanded}
use Rattle.psi_net_model.specs.Valid.{AreListed, IsAccepted, IsReward, IsNetwork}
use Rattle.psi_net_model.specs.Generated.{queue_count, nth_queue, generated_queues, server_of, arrival_event, full_behind, passing_event, leaving_event, odd_events, listed_events, generated_events, generated_network}
use Rattle.psi_net_model.specs.declared.entries.Queue.{Queue}
use Rattle.psi_net_model.specs.declared.entries.NamedEvent.{NamedEvent}
use Rattle.psi_net_model.proofs.CopyLemmas.{length_numbers, length_more, rates_more, total_map}
use Rattle.psi_net_model.proofs.QueueLemmas.{no_queue, capacities_kept, servers_most}
use Rattle.psi_net_model.proofs.KindLemmas.{accepted, first_source}
use Rattle.psi_net_model.proofs.RewardLemmas.{reward_accepted}
use Rattle.psi_net_model.proofs.EventLemmas.{IsEvent, events_of_kept, expanded_kept}
use Rattle.psi_net_model.proofs.MakingLemmas.{count_range, queues_count}

-- a queue of 8 to 32 customers and 1 to 3 servers
record IsMade (queue : Queue) : Type 0 where
  least : 8 ≤ queue.capacity
  most : queue.capacity ≤ 32
  some : 1 ≤ queue.servers
  few : queue.servers ≤ 3

nth_made : (n i : ℕ) → IsMade (nth_queue n i)
nth_made n i = grind (arith, mod_below)

all_made : (n : ℕ) → All IsMade (generated_queues n)
unfolding generated_queues
all_made n = All-map IsMade (nth_queue n) (numbers_from 1 (queue_count n)) (λ i d small. nth_made n (get_or (numbers_from 1 (queue_count n)) i d))

-- its queues are a network's
pub queues_kept : (n : ℕ) → AreListed (generated_queues n)
queues_kept n = grind (arith, queues_count, count_range, all_made)

-- there is room for 3 in each queue
record AreRoomy (caps : List ℕ) : Type 0 where
  capacities : AreCapacities caps
  four : 4 ≤ length caps
  room : (i : ℕ) → i < length caps → 3 ≤ slice_index caps i

caps_roomy : (n : ℕ) → AreRoomy (map (λ q. q.capacity) (generated_queues n))
caps_roomy n =
    let sized : length (map (λ (q : Queue). q.capacity) (generated_queues n)) ≡ length (generated_queues n) = length-map (generated_queues n) (λ (q : Queue). q.capacity) in
    let count = queues_count n in
    let least = (count_range n).0 in
    record {
      capacities = capacities_kept (generated_queues n) (queues_kept n);
      four = omega arith;
      room = λ i small. rw (get_or-map (λ (q : Queue). q.capacity) (generated_queues n) i no_queue 0 (omega arith)) (let one = (all_made n i no_queue (omega arith)).least in omega arith);
    }

few_servers : (n : ℕ) (source : Option Source) → IfSome source (λ s. s.queue < length (generated_queues n)) → servers_at (generated_queues n) source ≤ 3
few_servers n None small = omega arith
few_servers n (Some source) small = rw (get_or-map (λ (q : Queue). q.servers) (generated_queues n) source.queue no_queue 0 small) (all_made n source.queue no_queue small).few

arrival_accepted : (caps : List ℕ) → AreRoomy caps → IsAccepted caps (Arrival (0 ∷ 1 ∷ []))
arrival_accepted caps roomy = grind (arith, accepted)

passing_accepted : (caps : List ℕ) (i : ℕ) → AreRoomy caps → 1 ≤ i → i < length caps → IsAccepted caps (Service (server_of i) (i ∷ []) (full_behind i))
passing_accepted caps i roomy some small = grind (arith, accepted, first_source)

leaving_accepted : (caps : List ℕ) (last : ℕ) → AreRoomy caps → 1 ≤ last → last ≤ length caps → IsAccepted caps (Service (server_of last) [] Lost)
leaving_accepted caps last roomy some small = grind (arith, accepted, first_source)

bulk_accepted : (caps : List ℕ) → AreRoomy caps → IsAccepted caps (Batch (0 ∷ []) 3)
bulk_accepted caps roomy = grind (arith, accepted)

negative_accepted : (caps : List ℕ) (last : ℕ) → AreRoomy caps → 4 ≤ last → last ≤ length caps → IsAccepted caps (Negative (Some (server_of 2)) (last - 1) 1)
negative_accepted caps last roomy some small = grind (arith, accepted, first_source)

-- an event of the network before it is expanded
record IsListed (queues : List Queue) (event : NamedEvent) : Type 0 where
  kept : IsEvent (map (λ q. q.capacity) queues) event
  source : IfSome (source_of event.kind) (λ s. s.queue < length queues)
  servers : servers_at queues (source_of event.kind) ≤ 3
  light : event.rate ≤ 12

listed : (n : ℕ) (event : NamedEvent) → IsAccepted (map (λ q. q.capacity) (generated_queues n)) event.kind → 1 ≤ event.rate → event.rate ≤ 12
    → IfSome (source_of event.kind) (λ s. s.queue < length (generated_queues n)) → IsListed (generated_queues n) event
listed n event kind some light source = record {
  kept = record { kind = kind; least = some; most = omega arith };
  source = source;
  servers = few_servers n (source_of event.kind) source;
  light = light;
}

pub caps_count : (n : ℕ) → length (map (λ q. q.capacity) (generated_queues n)) ≡ queue_count n
caps_count n = length-map (generated_queues n) (λ (q : Queue). q.capacity) ∙ queues_count n

passing_listed : (n first count : ℕ) → 1 ≤ first → first + count ≤ queue_count n → All (IsListed (generated_queues n)) (map passing_event (numbers_from first count))
passing_listed n first zero some small = All-nil (IsListed (generated_queues n))
passing_listed n first (suc count) some small =
    let sized = caps_count n in
    let many = queues_count n in
    All-cons (IsListed (generated_queues n)) (passing_event first) (map passing_event (numbers_from (suc first) count))
    (listed n (passing_event first) (passing_accepted (map (λ q. q.capacity) (generated_queues n)) first (caps_roomy n) some (omega arith)) (omega arith) (omega arith) (omega arith))
    (passing_listed n (suc first) count (omega arith) (omega arith))

odd_listed : (n : ℕ) → All (IsListed (generated_queues n)) (odd_events n)
odd_listed n = grind (arith, caps_count, queues_count, count_range, few_servers, bulk_accepted, negative_accepted, caps_roomy)

all_listed : (n : ℕ) → All (IsListed (generated_queues n)) (listed_events n)
all_listed n =
    let sized = caps_count n in
    let many = queues_count n in
    let range = (count_range n).0 in
    All-cons (IsListed (generated_queues n)) arrival_event (map passing_event (numbers_from 1 (queue_count n - 1)) ++ leaving_event (queue_count n) ∷ odd_events n)
    (listed n arrival_event (arrival_accepted (map (λ q. q.capacity) (generated_queues n)) (caps_roomy n)) (omega arith) (omega arith) tt)
    (All-append (IsListed (generated_queues n)) (map passing_event (numbers_from 1 (queue_count n - 1))) (leaving_event (queue_count n) ∷ odd_events n)
    (passing_listed n 1 (queue_count n - 1) (omega arith) (omega arith))
    (All-cons (IsListed (generated_queues n)) (leaving_event (queue_count n)) (odd_events n)
    (listed n (leaving_event (queue_count n)) (leaving_accepted (map (λ q. q.capacity) (generated_queues n)) (queue_count n) (caps_roomy n) (omega arith) (omega arith)) (omega arith) (omega arith) (omega arith))
    (odd_listed n)))

odd_few : (n : ℕ) → length (odd_events n) ≤ 2
odd_few n = grind arith

listed_few : (n : ℕ) → length (listed_events n) ≤ 19
listed_few n =
    let odd = odd_few n in
    let range = (count_range n).1 in
    let passing : length (map passing_event (numbers_from 1 (queue_count n - 1))) ≡ queue_count n - 1 = length-map (numbers_from 1 (queue_count n - 1)) passing_event ∙ length_numbers 1 (queue_count n - 1) in
    let joined = length-append (map passing_event (numbers_from 1 (queue_count n - 1))) (leaving_event (queue_count n) ∷ odd_events n) in
    omega arith

-- events expanded over at most 3 servers each
record AreMany (queues : List Queue) (count : ℕ) (events : List NamedEvent) : Type 0 where
  each : All (IsEvent (map (λ q. q.capacity) queues)) events
  least : count ≤ length events
  most : length events ≤ 3 * count
  light : total (map (λ e. e.rate) events) ≤ 36 * count

all_expanded : (queues : List Queue) → AreListed queues → (events : List NamedEvent) → All (IsListed queues) events → AreMany queues (length events) (flat_map (expanded queues) events)
all_expanded queues kept [] all = record { each = All-nil (IsEvent (map (λ q. q.capacity) queues)); least = omega arith; most = omega arith; light = omega arith }
all_expanded queues kept (event ∷ events) all =
    let one = All-head (IsListed queues) event events all in
    let rest = all_expanded queues kept events (All-tail (IsListed queues) event events all) in
    let servers = servers_at queues (source_of event.kind) in
    let some = (servers_most queues (source_of event.kind) kept one.source).0 in
    let few = one.servers in
    let count = length_more [] servers event in
    let joined = length-append (expanded queues event) (flat_map (expanded queues) events) in
    let rates = rates_more [] servers event in
    let weight : servers * event.rate ≤ 3 * 12 = mul-le-mul one.servers one.light in
    let split = total_map (λ (e : NamedEvent). e.rate) (expanded queues event) (flat_map (expanded queues) events) in
    let least = rest.least in
    let most = rest.most in
    let light = rest.light in
    record {
      each = All-append (IsEvent (map (λ q. q.capacity) queues)) (expanded queues event) (flat_map (expanded queues) events) (expanded_kept queues event kept one.source one.kept) rest.each;
      least = omega arith;
      most = omega arith;
      light = omega arith;
    }

-- the reward
numbers_below : (first n most : ℕ) → first + n ≤ most → All (λ q. q < most) (numbers_from first n)
numbers_below first zero most small = All-nil (λ q. q < most)
numbers_below first (suc n) most small = All-cons (λ q. q < most) first (numbers_from (suc first) n) (omega arith) (numbers_below (suc first) n most (omega arith))

absent : (q first n : ℕ) → q < first → list_any (λ p. nat_eq p q) (numbers_from first n) ≡ false
absent q first zero less = refl
absent q first (suc n) less = grind (arith, absent q (suc first) n)

numbers_once : (first n : ℕ) → repeats (numbers_from first n) ≡ false
numbers_once first zero = refl
numbers_once first (suc n) = grind (arith, absent first (suc first) n, numbers_once (suc first) n)

numbers_some : (n : ℕ) → 1 ≤ n → is_none_listed (numbers_from 0 n) ≡ false
numbers_some zero some = absurd (omega arith)
numbers_some (suc n) some = refl

pub all_counted : (n : ℕ) (caps : List ℕ) → length caps ≡ queue_count n → IsReward caps (Linear (numbers_from 0 (queue_count n)) (replicate (queue_count n) (pos 1)))
all_counted n caps sized =
    let range = (count_range n).0 in
    record {
      queues = numbers_below 0 (queue_count n) (length caps) (omega arith);
      numbers = All-replicate IsSmall (queue_count n) (pos 1) (omega arith);
      accepted = reward_accepted caps (Linear (numbers_from 0 (queue_count n)) (replicate (queue_count n) (pos 1))) (numbers_some (queue_count n) (omega arith)) (numbers_once 0 (queue_count n))
          (eq-eqb (length (replicate (queue_count n) (pos 1))) (length (numbers_from 0 (queue_count n))) (length-replicate (queue_count n) (pos 1) ∙ sym (length_numbers 0 (queue_count n))));
    }

pub total_kept : (n count : ℕ) (caps queues : List ℕ) (weights : List ℤ) → length caps ≡ queue_count n → count ≡ queue_count n → queues ≡ numbers_from 0 count → weights ≡ replicate count (pos 1)
    → IsReward caps (Linear queues weights)
total_kept n count caps queues weights sized many are ones = rw (are, ones, many) (all_counted n caps sized)

-- there are as many capacities as queues
pub capacities_count : (n : ℕ) (queues : List Queue) (caps : List ℕ) → queues ≡ generated_queues n → caps ≡ map (λ q. q.capacity) queues → length caps ≡ queue_count n
capacities_count n queues caps are is = rw (is, are) (caps_count n)

-- the whole network
pub generated_kept : (n : ℕ) → IsNetwork (generated_network n)
unfolding generated_network generated_events
generated_kept n =
    let many = all_expanded (generated_queues n) (queues_kept n) (listed_events n) (all_listed n) in
    let least = many.least in
    let most = many.most in
    let light = many.light in
    let few = listed_few n in
    let events = events_of_kept (map (λ q. q.capacity) (generated_queues n)) (flat_map (expanded (generated_queues n)) (listed_events n)) (omega arith) (record { each = many.each; few = omega arith; light = omega arith }) in
    record {
      queues = queues_kept n;
      rates = events.rates;
      kinds = events.kinds;
      limit = omega arith;
      some_split = omega arith;
      most_split = omega arith;
      few_rewards = omega arith;
    }
