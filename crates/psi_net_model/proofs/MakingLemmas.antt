-- Making the network of a number, one part after another.
use Rattle.std.proofs.Common.{◌≡◌, ℕ, zero, suc, ◌+◌, ◌-◌, ◌%◌, ◌<◌, ◌≤◌, List, [], ◌∷◌, ◌++◌, length, map, codes, Bool, true, refl, sym, ap, ◌∙◌, arith, append_assoc}
use Rattle.std.specs.Fmt.{decimal, digits}
use Rattle.std.specs.List.{list_all, flat_map}
use Rattle.std.proofs.lemmas.Nat.{mod_below}
use Rattle.std.proofs.lemmas.Bool.{eq-eqb, ne_eqb}
use Rattle.std.proofs.lemmas.List.{length-map, append-nil, flat_map_more}
use Rattle.std.proofs.lemmas.List.Concat.{flat_map-append}
use Rattle.psi_state.specs.State.{numbers_from}
use Rattle.psi_net_model.specs.Name.{is_name}
use Rattle.psi_net_model.specs.Expansion.{expanded}
use Rattle.psi_net_model.specs.Generated.{queue_count, nth_queue, generated_queues, arrival_event, passing_event, leaving_event, bulk_event, negative_event, odd_events, generated_events}
use Rattle.psi_net_model.specs.declared.entries.Queue.{Queue}
use Rattle.psi_net_model.specs.declared.entries.NamedEvent.{NamedEvent}
use Rattle.psi_net_model.proofs.CopyLemmas.{length_numbers, numbers_more, map_more}

pub count_range : (n : ℕ) → (4 ≤ queue_count n) × (queue_count n ≤ 16)
count_range n = (let small = mod_below n 13 (omega arith) in (omega arith, omega arith))

-- what each of some numbers in a row has, one of them has
among : (has : ℕ → Bool) (first n i : ℕ) → first ≤ i → i < first + n → list_all has (numbers_from first n) ≡ true → has i ≡ true
among has first zero i least most h = absurd (omega arith)
among has first (suc n) i least most h = grind (arith, among has (suc first) n i)

queue_names : list_all (λ i. is_name (codes "q" ++ decimal i)) (numbers_from 0 17) ≡ true
unfolding is_name digits
queue_names = refl

service_names : list_all (λ i. is_name (codes "s" ++ decimal i)) (numbers_from 0 17) ≡ true
unfolding is_name digits
service_names = refl

pub queue_name : (i : ℕ) → i ≤ 16 → is_name (codes "q" ++ decimal i) ≡ true
queue_name i few = among (λ i. is_name (codes "q" ++ decimal i)) 0 17 i (omega arith) (omega arith) queue_names

pub service_name : (i : ℕ) → i ≤ 16 → is_name (codes "s" ++ decimal i) ≡ true
service_name i few = among (λ i. is_name (codes "s" ++ decimal i)) 0 17 i (omega arith) (omega arith) service_names

-- one queue more
pub queues_more : (n place : ℕ) (queues : List Queue) (queue : Queue) → queues ≡ map (nth_queue n) (numbers_from 1 place) → queue ≡ nth_queue n (place + 1)
    → queues ++ queue ∷ [] ≡ map (nth_queue n) (numbers_from 1 (place + 1))
queues_more n place queues queue are is = rw (are, is, map_more (nth_queue n) place) refl

pub queues_count : (n : ℕ) → length (generated_queues n) ≡ queue_count n
unfolding generated_queues
queues_count n = length-map (numbers_from 1 (queue_count n)) (nth_queue n) ∙ length_numbers 1 (queue_count n)

-- events after others, expanded over servers
pub none_passing : (queues : List Queue) (before : List NamedEvent) → before ≡ before ++ flat_map (expanded queues) (map passing_event (numbers_from 1 0))
none_passing queues before = sym (append-nil before)

pub passing_more : (queues : List Queue) (before events next : List NamedEvent) (event : NamedEvent) (place : ℕ) → events ≡ before ++ flat_map (expanded queues) (map passing_event (numbers_from 1 place))
    → event ≡ passing_event (place + 1) → next ≡ events ++ expanded queues event → next ≡ before ++ flat_map (expanded queues) (map passing_event (numbers_from 1 (place + 1)))
passing_more queues before events next event place are is then = rw (then, are, is, map_more passing_event place) (flat_map_more (expanded queues) before (map passing_event (numbers_from 1 place)) (passing_event (place + 1)))

-- the numbers so far leave room for one more
pub numbers_room : (queues : List ℕ) (n count : ℕ) → queues ≡ numbers_from 0 n → n < count → count ≤ 32 → length queues < 32
numbers_room queues n count are small few = (let sized : length queues ≡ n = ap (λ (qs : List ℕ). length qs) are ∙ length_numbers 0 n in omega arith)

-- one number more
pub numbers_next : (n : ℕ) → numbers_from 0 n ++ n ∷ [] ≡ numbers_from 0 (n + 1)
numbers_next n = (let e : n ≡ 0 + n = omega arith in ap (λ (k : ℕ). numbers_from 0 n ++ k ∷ []) e) ∙ sym (numbers_more 0 n)

-- what an odd number adds, and an even one
pub odd_more : (queues : List Queue) (before middle after : List NamedEvent) (n : ℕ) → n % 2 ≡ 1 → middle ≡ before ++ expanded queues bulk_event → after ≡ middle ++ expanded queues (negative_event (queue_count n))
    → after ≡ before ++ flat_map (expanded queues) (odd_events n)
odd_more queues before middle after n odd bulk negative =
    rw (eq-eqb (n % 2) 1 odd, negative, bulk, append-nil (expanded queues (negative_event (queue_count n)))) (append_assoc before (expanded queues bulk_event) (expanded queues (negative_event (queue_count n))))

pub even_more : (queues : List Queue) (before : List NamedEvent) (n : ℕ) → (n % 2 ≡ 1 → ⊥) → before ≡ before ++ flat_map (expanded queues) (odd_events n)
even_more queues before n even = rw (ne_eqb (n % 2) 1 even) (sym (append-nil before))

-- the events one part after another
pub all_joined : (n : ℕ) (queues : List Queue) (first passing leaving all : List NamedEvent) → queues ≡ generated_queues n → first ≡ [] ++ expanded queues arrival_event
    → passing ≡ first ++ flat_map (expanded queues) (map passing_event (numbers_from 1 (queue_count n - 1))) → leaving ≡ passing ++ expanded queues (leaving_event (queue_count n))
    → all ≡ leaving ++ flat_map (expanded queues) (odd_events n) → all ≡ generated_events n
unfolding generated_events
all_joined n queues first passing leaving all are a p l o =
    rw (o, l, p, a, are) (simp (flat_map-append (expanded (generated_queues n)), append_assoc) refl)
