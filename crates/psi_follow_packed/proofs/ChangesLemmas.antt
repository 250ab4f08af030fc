-- One addition a word changes all numbers.
use Rattle.std.specs.Prelude.{◌≡◌, ℕ, ◌+◌, ◌-◌, ◌*◌, ◌%◌, ◌^◌, ◌<◌, ◌≤◌, Bool, true, false, List, length, slice_index}
use Rattle.std.proofs.Common.{refl, ap, ap₂, sym, ◌∙◌, arith, ⊎_elim}
use Rattle.std.proofs.lemmas.Bool.{cases_lt}
use Rattle.std.proofs.lemmas.List.{get_or_past}
use Rattle.std.proofs.lemmas.Grind.{same_number_lists}
use Rattle.psi_state.specs.State.{IsBelow}
use Rattle.psi_event.specs.declared.piecewise.Piecewise.{Piecewise}
use Rattle.psi_event.specs.Piecewise.{if_on, first_on, second_on, IsSum, IsPiecewise}
use Rattle.psi_follow_packed.specs.Packed.{Packing, IsPacking, packed}
use Rattle.psi_follow_packed.specs.Moves.{Moving, IsMoved, IsMoveOf, holds}
use Rattle.psi_follow_packed.proofs.DigitsLemmas.{digits, digits-same, digits-add, digits-zero}
use Rattle.psi_follow_packed.proofs.WordsLemmas.{fields_of, packed-at, packed-lt, length-packed, below-fit}
use Rattle.psi_follow_packed.proofs.HoldingLemmas.{holds-is}

-- a word that is added only where a test holds has its digits only there
digits-if_on : (bits n : ℕ) (on : Bool) (f : ℕ → ℕ) → digits bits n (λ j. if_on on (f j)) ≡ if_on on (digits bits n f)
digits-if_on bits n true f = refl
digits-if_on bits n false f = digits-zero bits n (λ j. 0) (λ j. refl)

-- three digits are added at each place
digits-sum : (bits n : ℕ) (a b : Bool) (f g h : ℕ → ℕ)
    → digits bits n (λ j. f j + if_on a (g j) + if_on b (h j)) ≡ digits bits n f + if_on a (digits bits n g) + if_on b (digits bits n h)
digits-sum bits n a b f g h =
    digits-add bits n (λ j. f j + if_on a (g j)) (λ j. if_on b (h j))
    ∙ ap₂ ◌+◌ (digits-add bits n f (λ j. if_on a (g j)) ∙ ap (λ d. digits bits n f + d) (digits-if_on bits n a g)) (digits-if_on bits n b h)

-- sums of the same numbers
same-sums : (a b : Bool) {k l m k' l' m' : ℕ} → k ≡ k' → l ≡ l' → m ≡ m' → k + if_on a l + if_on b m ≡ k' + if_on a l' + if_on b m'
same-sums a b first second third = ap₂ ◌+◌ (ap₂ ◌+◌ first (ap (if_on a) second)) (ap (if_on b) third)

-- what comes and leaves word by word is what comes and leaves number by number
pub word-sum : (count : ℕ) (p : Packing) (a b : Bool) (x y u d v e : List ℕ)
    → ((q : ℕ) → slice_index y q + if_on a (slice_index d q) + if_on b (slice_index e q) ≡ slice_index x q + if_on a (slice_index u q) + if_on b (slice_index v q))
    → (w : ℕ) → w < count
    → slice_index (packed count p y) w + if_on a (slice_index (packed count p d) w) + if_on b (slice_index (packed count p e) w)
    ≡ slice_index (packed count p x) w + if_on a (slice_index (packed count p u) w) + if_on b (slice_index (packed count p v) w)
word-sum count p a b x y u d v e each w small =
    same-sums a b (packed-at count p y w small) (packed-at count p d w small) (packed-at count p e w small)
    ∙ sym (digits-sum p.bits p.fields a b (fields_of p.fields y w) (fields_of p.fields d w) (fields_of p.fields e w))
    ∙ digits-same p.bits p.fields
    (λ j. fields_of p.fields y w j + if_on a (fields_of p.fields d w j) + if_on b (fields_of p.fields e w j))
    (λ j. fields_of p.fields x w j + if_on a (fields_of p.fields u w j) + if_on b (fields_of p.fields v w j))
    (λ j within. each (w * p.fields + j))
    ∙ digits-sum p.bits p.fields a b (fields_of p.fields x w) (fields_of p.fields u w) (fields_of p.fields v w)
    ∙ sym (same-sums a b (packed-at count p x w small) (packed-at count p u w small) (packed-at count p v w small))

-- sums that wrap around agree with sums that don't, where the result fits
wrapping-sum : (a b : Bool) (x y u d v e : ℕ) → y < 2 ^ 64 → d < 2 ^ 64 → e < 2 ^ 64 → y + if_on a d + if_on b e ≡ x + if_on a u + if_on b v
    → ((x + if_on a ((u + (2 ^ 64 - d)) % 2 ^ 64)) % 2 ^ 64 + if_on b ((v + (2 ^ 64 - e)) % 2 ^ 64)) % 2 ^ 64 ≡ y
wrapping-sum true true x y u d v e small leaves goes same = omega arith
wrapping-sum true false x y u d v e small leaves goes same = omega arith
wrapping-sum false true x y u d v e small leaves goes same = omega arith
wrapping-sum false false x y u d v e small leaves goes same = omega arith

-- past the last queue nothing is added or taken
sum-each : (p : Piecewise) (caps x y : List ℕ) → IsPiecewise caps p → IsBelow x caps → IsSum p x y → (q : ℕ)
    → slice_index y q + if_on (first_on p x) (slice_index p.first.downs q) + if_on (second_on p x) (slice_index p.second.downs q)
    ≡ slice_index x q + if_on (first_on p x) (slice_index p.first.ups q) + if_on (second_on p x) (slice_index p.second.ups q)
sum-each p caps x y valid below sum q = ⊎_elim (sum.each q) past (cases_lt q (length x))
  where
    none : (z : List ℕ) → length z ≤ q → slice_index z q ≡ 0
    none z short = get_or_past z q 0 short

    past : length x ≤ q → slice_index y q + if_on (first_on p x) (slice_index p.first.downs q) + if_on (second_on p x) (slice_index p.second.downs q)
        ≡ slice_index x q + if_on (first_on p x) (slice_index p.first.ups q) + if_on (second_on p x) (slice_index p.second.ups q)
    past long =
        same-sums (first_on p x) (second_on p x)
        (none y (omega (arith, sum.long)) ∙ sym (none x long))
        (none p.first.downs (omega (arith, valid.first.downs.same_length, below.same_length)) ∙ sym (none p.first.ups (omega (arith, valid.first.ups.same_length, below.same_length))))
        (none p.second.downs (omega (arith, valid.second.downs.same_length, below.same_length)) ∙ sym (none p.second.ups (omega (arith, valid.second.ups.same_length, below.same_length))))

-- the move of pieces makes of the words of a state the words of what the pieces make of the state
module _ (count : ℕ) (p : Packing) (pieces : Piecewise) (m : Moving) (x y words : List ℕ) (is : IsPacking count p) (valid : IsPiecewise p.caps pieces)
    (move : IsMoveOf count p pieces m) (below : IsBelow x p.caps) (within : IsBelow y p.caps) (sum : IsSum pieces x y) where
  first-holds : holds count m.offsets m.first (packed count p x) ≡ first_on pieces x
  first-holds = holds-is count p pieces.first pieces.bounds x m.offsets m.first is valid.first valid.bounds below move.offsets move.first

  second-holds : holds count m.offsets m.second (packed count p x) ≡ second_on pieces x
  second-holds = holds-is count p pieces.second pieces.bounds x m.offsets m.second is valid.second valid.bounds below move.offsets move.second

  change-lt : (z : List ℕ) → IsBelow z p.caps → (w : ℕ) → slice_index (packed count p z) w < 2 ^ 64
  change-lt z fits w = packed-lt count p z is (below-fit count p z is fits) w

  by : (w : ℕ) (a a' b b' : Bool) (c c' d d' : ℕ) → a ≡ a' → b ≡ b' → c ≡ c' → d ≡ d'
      → ((slice_index (packed count p x) w + if_on a c) % 2 ^ 64 + if_on b d) % 2 ^ 64 ≡ ((slice_index (packed count p x) w + if_on a' c') % 2 ^ 64 + if_on b' d') % 2 ^ 64
  by w a a' b b' c c' d d' first second third fourth =
      ap₂ (λ s t. ((slice_index (packed count p x) w + s) % 2 ^ 64 + t) % 2 ^ 64) (ap₂ if_on first third) (ap₂ if_on second fourth)

  moved-at : (w : ℕ) → w < count → ((slice_index (packed count p x) w + if_on (holds count m.offsets m.first (packed count p x)) (slice_index m.first.change w)) % 2 ^ 64
      + if_on (holds count m.offsets m.second (packed count p x)) (slice_index m.second.change w)) % 2 ^ 64
      ≡ slice_index (packed count p y) w
  moved-at w small =
      by w (holds count m.offsets m.first (packed count p x)) (first_on pieces x) (holds count m.offsets m.second (packed count p x)) (second_on pieces x)
      (slice_index m.first.change w) ((slice_index (packed count p pieces.first.ups) w + (2 ^ 64 - slice_index (packed count p pieces.first.downs) w)) % 2 ^ 64)
      (slice_index m.second.change w) ((slice_index (packed count p pieces.second.ups) w + (2 ^ 64 - slice_index (packed count p pieces.second.downs) w)) % 2 ^ 64)
      first-holds second-holds (move.first.change w small) (move.second.change w small)
      ∙ wrapping-sum (first_on pieces x) (second_on pieces x) (slice_index (packed count p x) w) (slice_index (packed count p y) w)
      (slice_index (packed count p pieces.first.ups) w) (slice_index (packed count p pieces.first.downs) w)
      (slice_index (packed count p pieces.second.ups) w) (slice_index (packed count p pieces.second.downs) w)
      (change-lt y within w) (change-lt pieces.first.downs valid.first.downs w) (change-lt pieces.second.downs valid.second.downs w)
      (word-sum count p (first_on pieces x) (second_on pieces x) x y pieces.first.ups pieces.first.downs pieces.second.ups pieces.second.downs
      (sum-each pieces p.caps x y valid below sum) w small)

  pub moved-is : IsMoved count m (packed count p x) words → words ≡ packed count p y
  moved-is moved =
      same_number_lists words (packed count p y) (moved.long ∙ sym (length-packed count p y))
      (λ w small. moved.each w (omega (arith, moved.long)) ∙ moved-at w (omega (arith, moved.long)))
