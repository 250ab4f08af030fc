-- What a step adds to the pairs of times and changes.
use Rattle.std.specs.Prelude.{◌≡◌, ℕ, zero, suc, ◌+◌, ◌-◌, ◌*◌, ◌%◌, ◌^◌, ◌<◌, ◌≤◌, ◌↔◌, List, [], length, map, replicate, slice_index, slice_index_or, Bool, true, false, ◌&&◌, not, nat_eq, IsTrue, bit_and, if◌then◌else◌, refl}
use Rattle.std.proofs.Common.{inl, inr, ap, ap₂, sym, ◌∙◌, subst, set, arith}
use Rattle.std.specs.Int.Bits.{and_zero_l}
use Rattle.std.proofs.Math.Nat.{mul-le-mul_left}
use Rattle.std.proofs.lemmas.Bool.{cases_Bool, cases_lt, eqb-true, eq-eqb}
use Rattle.std.proofs.lemmas.Grind.{same_number_lists}
use Rattle.std.proofs.lemmas.Nat.{and_comm, and_mask}
use Rattle.std.proofs.Math.ListN.{get_or-map}
use Rattle.std.proofs.lemmas.List.{map-set, length-map, length_push}
use Rattle.psi_event.specs.Idle.{unchanged}
use Rattle.psi_follow_packed.specs.Views.{low_word, high_word, moving_by}
use Rattle.psi_follow_packed.specs.declared.moves.PackedEvent.{PackedEvent}
use Rattle.psi_path.specs.Path.{Path, event_after, is_changed}
use Rattle.psi_path.proofs.StandLemmas.{count-few}
use Rattle.psi_follow_packed.specs.Moves.{Moving, IsMoved, same_words}
use Rattle.psi_follow_packed.specs.declared.pairs.Pair.{Pair}
use Rattle.psi_path_packed.specs.Rises.{times_until}
use Rattle.psi_path_packed.specs.Counts.{CountsStand, Course, AreMovesOf}
use Rattle.psi_path_packed.proofs.CountLemmas.{one_if}

-- ---- lists of words

same-before : (count : ℕ) (x y : List ℕ) → same_words count x y ≡ true → (w : ℕ) → w < count → slice_index x w ≡ slice_index y w
same-before zero x y same w small = absurd (omega arith)
same-before (suc count) x y same w small = elim (cases_Bool (same_words count x y)) [
  | inl so ↦
      (let own : nat_eq (slice_index x count) (slice_index y count) ≡ true = ap (λ b. b && nat_eq (slice_index x count) (slice_index y count)) (sym so) ∙ same in
      elim (cases_lt w count) [
        | inl less ↦ same-before count x y so w less
        | inr more ↦ (let e : count ≡ w = omega (arith, small, more) in
            subst (λ (i : ℕ). slice_index x i ≡ slice_index y i) e (eqb-true (slice_index x count) (slice_index y count) own))
      ])
  | inr not_so ↦ absurd (let e : false ≡ true = ap (λ b. b && nat_eq (slice_index x count) (slice_index y count)) (sym not_so) ∙ same in cc)
]

same-itself : (count : ℕ) (x : List ℕ) → same_words count x x ≡ true
same-itself zero x = refl
same-itself (suc count) x = ap₂ ◌&&◌ (same-itself count x) (eq-eqb (slice_index x count) (slice_index x count) refl)

pub same-lists : (count : ℕ) (x y : List ℕ) → length x ≡ count → length y ≡ count → IsTrue (same_words count x y) ↔ (x ≡ y)
same-lists count x y long also = (
  (λ same. same_number_lists x y (long ∙ sym also) (λ w small. same-before count x y same w (omega (arith, small, long)))),
  (λ same. subst (λ (z : List ℕ). IsTrue (same_words count x z)) same (same-itself count x)),
)

-- a move makes the same of the same words
pub moved-once : (count : ℕ) (m n : Moving) (x y u v : List ℕ) → n ≡ m → y ≡ x → IsMoved count m x u → IsMoved count n y v → v ≡ u
moved-once count m n x y u v same words first second =
    let other : IsMoved count m x v = subst (λ (k : Moving). IsMoved count k x v) same (subst (λ (z : List ℕ). IsMoved count n z v) words second) in
    same_number_lists v u (other.long ∙ sym first.long) (λ w small. other.each w (omega (arith, small, other.long)) ∙ sym (first.each w (omega (arith, small, other.long))))

-- ---- masks

pub masked-if : (same : Bool) (v : ℕ) → v < 2 ^ 64 → bit_and (if same then 0 else 2 ^ 64 - 1) v ≡ one_if (not same) * v
masked-if true v small = and_zero_l v ∙ omega arith
masked-if false v small = and_comm (2 ^ 64 - 1) v ∙ and_mask v 64 ∙ omega (arith, small)

-- a number of a list of pairs gets more
pub pair-more : (word : Pair → ℕ) (pairs : List Pair) (n : ℕ) (new : Pair) (more : ℕ) → word new ≡ slice_index (map word pairs) n + more
    → map word (set pairs n new) ≡ set (map word pairs) n (slice_index (map word pairs) n + more)
pair-more word pairs n new more is = map-set word pairs n new ∙ ap (λ v. set (map word pairs) n v) is

-- sums that fit don't wrap
pub plus-fits : (r v mask d more : ℕ) (same : Bool) → r ≡ (v + mask) % 2 ^ 64 → mask ≡ bit_and (if same then 0 else 2 ^ 64 - 1) d → d < 2 ^ 64 → more ≡ one_if (not same) * d → v + more < 2 ^ 64
    → r ≡ v + more
plus-fits r v mask d more same sum is small own few =
    let e : mask ≡ more = is ∙ masked-if same d small ∙ sym own in omega (arith, sum, e, few)

-- ---- what is counted fits

times-few : (path : Path) (steps e n : ℕ) → times_until path steps e n ≤ n * steps
times-few path steps e zero = omega arith
times-few path steps e (suc k) = (let rest = times-few path steps e k in elim (cases_Bool (nat_eq (event_after path (suc k)) e && is_changed path (suc k))) [
  | inl so ↦ (let own : times_until path steps e (suc k) ≡ times_until path steps e k + (steps - k) = ap (λ (b : Bool). times_until path steps e k + (if b then steps - k else 0)) so in omega arith)
  | inr not_so ↦ (let own : times_until path steps e (suc k) ≡ times_until path steps e k + 0 = ap (λ (b : Bool). times_until path steps e k + (if b then steps - k else 0)) not_so in omega arith)
])

module _ (path : Path) (steps k left : ℕ) (chosen changed times : List ℕ) (all : k + left ≡ steps) (few : steps ≤ 4290772992) (stand : CountsStand path steps k chosen changed times)
    (n : ℕ) (small : n < length path.rates + 1) where
  pub chosen-fits : slice_index chosen n ≤ 4290772992
  chosen-fits = (let is = stand.each n small in let most = count-few (λ t. nat_eq (event_after path t) n) k in omega arith)

  pub changed-fits : slice_index changed n ≤ 4290772992
  changed-fits = (let is = stand.each_changed n small in let most = count-few (λ t. nat_eq (event_after path t) n && is_changed path t) k in omega arith)

  pub times-fits : slice_index times n + left < 2 ^ 64
  times-fits =
      let is = stand.each_times n small in
      let most = times-few path steps n k in
      let product : k * steps ≤ k * 4290772992 = mul-le-mul_left k few in omega arith

-- ---- nothing is counted yet

pub none-in : (word : Pair → ℕ) (p : Pair) (n e : ℕ) → word p ≡ 0 → slice_index (map word (replicate n p)) e ≡ 0
none-in word p zero e none = refl
none-in word p (suc n) zero none = none
none-in word p (suc n) (suc e) none = none-in word p n e none

-- ---- pairs of a list

-- what is read past the end
abbrev pub no_pair : Pair
no_pair = record { lanes = [] }

pub low-at : (pairs : List Pair) (at : ℕ) → low_word (slice_index_or pairs at no_pair) ≡ slice_index (map low_word pairs) at
low-at pairs at = sym (get_or-map low_word pairs at no_pair)

pub high-at : (pairs : List Pair) (at : ℕ) → high_word (slice_index_or pairs at no_pair) ≡ slice_index (map high_word pairs) at
high-at pairs at = sym (get_or-map high_word pairs at no_pair)

-- one time at most
pub one-times : (b : Bool) (v : ℕ) → one_if b * v ≤ v
one-times true v = omega arith
one-times false v = omega arith

-- the numbers of events are those of moves
pub number-small : {K : ℕ} (course : Course) (rates : List ℕ) (items : List (PackedEvent K)) (n : ℕ) → AreMovesOf K course rates (map (moving_by low_word) items) → n ≤ length rates
    → (n < length items) × (n < length course.path.rates + 1)
number-small {K} course rates items n moves most =
    let same : length course.path.rates ≡ length rates = ap (λ (rs : List ℕ). length rs) moves.same_rates in
    let count = moves.prepared.same_count in
    let mapped = length-map items (λ (m : PackedEvent K). moving_by low_word m) in
    let all = length_push course.path.functions unchanged in
    let long = moves.long in (omega arith, omega arith)

pub most-place : {own rates : List ℕ} {n : ℕ} → own ≡ rates → n ≤ length own → n ≤ length rates
most-place {own} {rates} {n} same most = (let long : length own ≡ length rates = ap (λ (rs : List ℕ). length rs) same in omega arith)
