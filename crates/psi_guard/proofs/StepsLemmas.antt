-- What the loops over parts and queues know.
use Rattle.std.specs.Prelude.{◌≡◌, ℕ, zero, suc, ◌+◌, ◌<◌, ◌≤◌, true, false, ◌⊎◌, nat_eq, List, ◌∷◌, length, map, slice_index, slice_set, Option, Some, None, refl, []}
use Rattle.std.proofs.Common.{inl, inr, ap, sym, ◌∙◌, subst, arith, rules}
use Rattle.std.proofs.lemmas.Bool.{eq-eqb, or_left, or_right, true_from_ne_false, false_from_ne_true, cond-false, and_left}
use Rattle.std.proofs.lemmas.List.{ext_get_or}
use Rattle.std.proofs.lemmas.Grind.{common_steps}
use Rattle.psi_state.specs.State.{IsBelow, numbers_from}
use Rattle.psi_event.proofs.ChoiceLemmas.{first_some-found, first_some-none}
use Rattle.psi_event.specs.Setting.{AreSet}
use Rattle.psi_event.proofs.SettingLemmas.{set-next, set-more}
use Rattle.psi_guard.specs.declared.parts.Part.{Part}
use Rattle.psi_guard.specs.Guarding.{moved, all_allow, guarded, part_of, leasts, exceeds, falls_short, other_above, other_below, over_queues}
use Rattle.psi_guard.specs.Refusals.{AreGuards, at, names}
use Rattle.psi_guard.specs.Inner.PlacesLaws.{named_or_free, all_allow-false}
use Rattle.psi_guard.specs.Rule.{AllowsAll, rule}
use Rattle.psi_guard.specs.Inner.RuleLaws.{makes, allowed_place}
use Rattle.psi_guard.proofs.OrderLemmas.{allowed_moves}

pub names-at : (parts : List Part) (q i : ℕ) → i < length parts → (at parts i).queue ≡ q → names parts q ≡ true
names-at [] q i small same = absurd (omega arith)
names-at (part ∷ parts) q zero small same = or_left (nat_eq part.queue q) (names parts q) (eq-eqb part.queue q same)
names-at (part ∷ parts) q (suc i) small same = or_right (nat_eq part.queue q) (names parts q) (names-at parts q i (omega arith) same)

pub all_allow-from : (parts : List Part) (x : List ℕ)
    → ((i : ℕ) → i < length parts → ((at parts i).least ≤ slice_index x (at parts i).queue) × (slice_index x (at parts i).queue ≤ (at parts i).most))
    → all_allow parts x ≡ true
all_allow-from parts x each = true_from_ne_false (all_allow parts x) (λ is.
    (let found = all_allow-false parts x is in
    let ends = each found.0 found.1 in
    let low : (at parts found.0).least ≤ slice_index x (at parts found.0).queue = ends.0 in
    elim found.2 [ inl out ↦ omega arith | inr out ↦ omega (arith, ends.1) ]))

pub all_allow-out : (parts : List Part) (x : List ℕ) (i : ℕ) → i < length parts
    → (slice_index x (at parts i).queue < (at parts i).least) ⊎ ((at parts i).most < slice_index x (at parts i).queue) → all_allow parts x ≡ false
all_allow-out parts x i small out = grind (arith, common_steps, false_from_ne_true)

-- the state y where the first i parts have moved their queues
abbrev pub AreMoved : List Part → List ℕ → ℕ → List ℕ → Type 0
AreMoved parts x i y = AreSet (λ k. (at parts k).queue) (λ k v. v ≡ moved (at parts k) (slice_index x (at parts k).queue)) x y i

pub moving-step : (caps : List ℕ) (parts : List Part) (x y : List ℕ) (i : ℕ) (part : Part) (held to : ℕ) → AreGuards caps parts → IsBelow x caps → AreMoved parts x i y
    → i < length parts → part ≡ at parts i → held ≡ slice_index y part.queue → to ≡ moved part held → AreMoved parts x (i + 1) (slice_set y part.queue to)
moving-step caps parts x y i part held to guards below before small is was image = search (rules, set-next, set-more)

pub moving-end : (caps : List ℕ) (parts : List Part) (x y : List ℕ) (i : ℕ) → AreGuards caps parts → IsBelow x caps → all_allow parts x ≡ true
    → AreMoved parts x i y → length parts ≡ i → y ≡ guarded parts x
moving-end caps parts x y i guards below allowed done all_done =
    let made = makes caps parts x guards below in
    let all : AllowsAll (rule caps parts) x = record {
      low = λ p place. (allowed_place caps parts x p below allowed place).0;
      high = λ p place. (allowed_place caps parts x p below allowed place).1;
    } in
    ext_get_or 0 y (guarded parts x) (done.count ∙ (below.same_length ∙ sym made.long)) (λ q small.
    (let there : q < length x = omega (arith, done.count) in
    elim (named_or_free caps parts q) [
      | inl named ↦ subst (λ p. slice_index y p ≡ moved (part_of caps parts q) (slice_index x p)) named.queue
          (subst (λ part. slice_index y (at parts named.place).queue ≡ moved part (slice_index x (at parts named.place).queue)) (sym named.part)
          (done.set named.place (omega (arith, named.small))))
      | inr free ↦ (let cap : slice_index x q ≤ slice_index caps q = below.each q there in
          done.rest q (λ k less. free.other k (omega arith)) ∙ (subst (λ part. slice_index x q ≡ moved part (slice_index x q)) (sym free.part) (omega arith)))
    ] ∙ sym (allowed_moves (rule caps parts) x (guarded parts x) q made all (omega (arith, below.same_length)))))

-- the least numbers by their queues
slice_index-map_numbers : (f : ℕ → ℕ) (first n i : ℕ) → i < n → slice_index (map f (numbers_from first n)) i ≡ f (first + i)
slice_index-map_numbers f first zero i small = absurd (omega arith)
slice_index-map_numbers f first (suc n) zero small = (let e : first ≡ first + 0 = omega arith in ap f e)
slice_index-map_numbers f first (suc n) (suc i) small =
    (let e : suc first + i ≡ first + suc i = omega arith in slice_index-map_numbers f (suc first) n i (omega arith) ∙ ap f e)

length-map_numbers : (f : ℕ → ℕ) (first n : ℕ) → length (map f (numbers_from first n)) ≡ n
length-map_numbers f first zero = refl
length-map_numbers f first (suc n) = ap suc (length-map_numbers f (suc first) n)

pub length-leasts : (caps : List ℕ) (parts : List Part) → length (leasts caps parts) ≡ length caps
length-leasts caps parts = length-map_numbers (λ q. (part_of caps parts q).least) 0 (length caps)

pub slice_index-leasts : (caps : List ℕ) (parts : List Part) (q : ℕ) → q < length caps → slice_index (leasts caps parts) q ≡ (part_of caps parts q).least
slice_index-leasts caps parts q place = search (rules, slice_index-map_numbers)

pub leasts-from : (caps : List ℕ) (parts : List Part) (x : List ℕ) → length x ≡ length caps
    → ((q : ℕ) → q < length caps → slice_index x q ≡ (part_of caps parts q).least) → x ≡ leasts caps parts
leasts-from caps parts x long each =
    ext_get_or 0 x (leasts caps parts) (long ∙ sym (length-leasts caps parts))
    (λ q small. (let place : q < length caps = omega (arith, long) in each q place ∙ sym (slice_index-leasts caps parts q place)))

-- the first answer over the queues
pub queues-found : {A : Type 0} (caps : List ℕ) (f : ℕ → Option A) (i : ℕ) (a : A) → i < length caps → f i ≡ Some a → ((j : ℕ) → j < i → f j ≡ None)
    → over_queues caps f ≡ Some a
queues-found caps f i a place is before = first_some-found f 0 (length caps) i a (omega arith) (omega arith) is (λ j low less. before j less)

pub queues-none : {A : Type 0} (caps : List ℕ) (f : ℕ → Option A) (i : ℕ) → length caps ≤ i → ((j : ℕ) → j < i → f j ≡ None) → over_queues caps f ≡ None
queues-none caps f i over before = first_some-none f 0 (length caps) (λ j low high. before j (omega arith))

-- no queue is shown to rise beside one that can't hold more than its most
pub other_above-none : (caps : List ℕ) (parts : List Part) (p : ℕ) → exceeds caps parts p ≡ false → over_queues caps (other_above caps parts p) ≡ None
other_above-none caps parts p out = queues-none caps (other_above caps parts p) (length caps) (omega arith) (λ q small. cond-false _ _ None (and_left _ _ out))

-- and none to fall beside one that can't hold less than its least
pub other_below-none : (caps : List ℕ) (parts : List Part) (p : ℕ) → falls_short caps parts p ≡ false → over_queues caps (other_below caps parts p) ≡ None
other_below-none caps parts p out = queues-none caps (other_below caps parts p) (length caps) (omega arith) (λ q small. cond-false _ _ None (and_left _ _ out))
