-- Events of several servers: how many they are, their index values and their rates.
use Rattle.std.proofs.Common.{◌≡◌, ℕ, zero, suc, ◌+◌, ◌*◌, ◌<◌, ◌≤◌, List, [], ◌∷◌, ◌++◌, length, map, take, get_or, nat_le, false, refl, sym, ap, ◌∙◌, arith, length-append}
use Rattle.std.specs.List.{flat_map}
use Rattle.std.proofs.Math.Nat.{suc-mul}
use Rattle.std.proofs.lemmas.Bool.{lt-leb}
use Rattle.std.proofs.lemmas.List.{length-map, append-nil, append_assoc, map_push, take_more}
use Rattle.std.proofs.lemmas.List.Concat.{flat_map-append}
use Rattle.psi_state.specs.State.{numbers_from}
use Rattle.psi_rate.specs.Rates.{total}
use Rattle.psi_kinds.specs.declared.Kind.{Kind}
use Rattle.psi_net_model.specs.Expansion.{at_server, served, served_by, expanded, values_in, values_of, most_index_values}
use Rattle.psi_net_model.specs.declared.entries.Queue.{Queue}
use Rattle.psi_net_model.specs.declared.entries.NamedEvent.{NamedEvent}

-- the total of two lists of events, one after another
pub total_map : (f : NamedEvent → ℕ) (xs ys : List NamedEvent) → total (map f (xs ++ ys)) ≡ total (map f xs) + total (map f ys)
total_map f [] ys = omega arith
total_map f (x ∷ xs) ys = (let rest = total_map f xs ys in omega arith)

pub length_numbers : (first n : ℕ) → length (numbers_from first n) ≡ n
length_numbers first zero = refl
length_numbers first (suc n) = ap suc (length_numbers (suc first) n)

pub numbers_more : (first n : ℕ) → numbers_from first (n + 1) ≡ numbers_from first n ++ (first + n) ∷ []
numbers_more first zero = (let e : first ≡ first + 0 = omega arith in ap (λ (k : ℕ). k ∷ []) e)
numbers_more first (suc n) = grind (arith, numbers_more (suc first) n)

pub map_more : {A : Type 0} (f : ℕ → A) (n : ℕ) → map f (numbers_from 1 (n + 1)) ≡ map f (numbers_from 1 n) ++ f (n + 1) ∷ []
map_more {A = A} f n = rw (numbers_more 1 n, map_push f (numbers_from 1 n) (1 + n)) (let e : 1 + n ≡ n + 1 = omega arith in ap (λ (k : ℕ). map f (numbers_from 1 n) ++ f k ∷ []) e)

pub values_served : (k : ℕ) (kind : Kind) → values_in (at_server k kind) ≡ values_in kind
values_served k kind = grind arith

rates_from : (event : NamedEvent) (first n : ℕ) → total (map (λ e. e.rate) (map (served event) (numbers_from first n))) ≡ n * event.rate
rates_from event first zero = omega arith
rates_from event first (suc n) = (let rest = rates_from event (suc first) n in omega (arith, suc-mul n event.rate))

values_from : (event : NamedEvent) (first n : ℕ) → values_of (map (served event) (numbers_from first n)) ≡ n * values_in event.kind
values_from event first zero = omega arith
values_from event first (suc n) = (let rest = values_from event (suc first) n in let one = values_served first event.kind in omega (arith, suc-mul n (values_in event.kind)))

pub length_more : (events : List NamedEvent) (n : ℕ) (event : NamedEvent) → length (events ++ served_by n event) ≡ length events + n
unfolding served_by
length_more events n event = rw (length-append events (map (served event) (numbers_from 1 n)), length-map (numbers_from 1 n) (served event), length_numbers 1 n) refl

pub values_more : (events : List NamedEvent) (n : ℕ) (event : NamedEvent) → values_of (events ++ served_by n event) ≡ values_of events + n * values_in event.kind
unfolding served_by
values_more events n event = rw (total_map (λ (e : NamedEvent). values_in e.kind) events (map (served event) (numbers_from 1 n)), values_from event 1 n) refl

pub rates_more : (events : List NamedEvent) (n : ℕ) (event : NamedEvent) → total (map (λ e. e.rate) (events ++ served_by n event)) ≡ total (map (λ e. e.rate) events) + n * event.rate
unfolding served_by
rates_more events n event = rw (total_map (λ (e : NamedEvent). e.rate) events (map (served event) (numbers_from 1 n)), rates_from event 1 n) refl

-- one server more
pub served_more : (n : ℕ) (event : NamedEvent) → served_by (n + 1) event ≡ served_by n event ++ served event (n + 1) ∷ []
unfolding served_by
served_more n event = map_more (served event) n

-- no server, and one server more after others
pub served_start : (events : List NamedEvent) (event : NamedEvent) → events ≡ events ++ served_by 0 event
unfolding served_by
served_start events event = sym (append-nil events)

pub served_next : (before events : List NamedEvent) (n : ℕ) (event next : NamedEvent) → events ≡ before ++ served_by n event → next ≡ served event (n + 1)
    → events ++ next ∷ [] ≡ before ++ served_by (n + 1) event
served_next before events n event next is so = rw (is, so, served_more n event) (append_assoc before (served_by n event) (served event (n + 1) ∷ []))

at_least : (n v : ℕ) → 1 ≤ n → v ≤ n * v
at_least zero v some = absurd (omega arith)
at_least (suc n) v some = omega (arith, suc-mul n v)

-- one event's index values are too many
pub too_many : (values n v : ℕ) → 1 ≤ n → most_index_values < v → nat_le (values + n * v) most_index_values ≡ false
too_many values n v some many = (let least = at_least n v some in lt-leb (values + n * v) most_index_values (omega arith))

-- one event more is expanded
pub expanded_push : (queues : List Queue) (events : List NamedEvent) (event : NamedEvent)
    → flat_map (expanded queues) (events ++ event ∷ []) ≡ flat_map (expanded queues) events ++ expanded queues event
expanded_push queues events event =
    flat_map-append (expanded queues) events (event ∷ []) ∙ ap (λ (es : List NamedEvent). flat_map (expanded queues) events ++ es) (append-nil (expanded queues event))

pub expanded_more : (queues : List Queue) (events : List NamedEvent) (i : ℕ) (event : NamedEvent) → i < length events → event ≡ get_or events i event
    → flat_map (expanded queues) (take (i + 1) events) ≡ flat_map (expanded queues) (take i events) ++ expanded queues event
expanded_more queues events i event small is =
    ap (λ (es : List NamedEvent). flat_map (expanded queues) es) (take_more events i event small) ∙ expanded_push queues (take i events) (get_or events i event)
    ∙ ap (λ (e : NamedEvent). flat_map (expanded queues) (take i events) ++ expanded queues e) (sym is)
