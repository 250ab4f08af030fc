-- The words of a packed state by their digits.
use Rattle.std.specs.Prelude.{◌≡◌, ℕ, zero, suc, ◌+◌, ◌-◌, ◌*◌, ◌^◌, ◌<◌, ◌≤◌, List, [], ◌∷◌, length, take, drop, slice_index}
use Rattle.std.proofs.Common.{refl, ap, sym, subst, ◌∙◌, arith, pow_mono, pow_pos, get_or-drop, ⊎_elim}
use Rattle.std.proofs.lemmas.Bool.{cases_lt}
use native.Mathlib.Nat.{pow-suc}
use Rattle.std.proofs.lemmas.List.{get_or_past}
use Rattle.psi_state.specs.State.{IsBelow}
use Rattle.psi_follow_packed.specs.Packed.{word_of, words_of, Packing, IsPacking, packed}
use Rattle.psi_follow_packed.proofs.DigitsLemmas.{digits, AreDigits, digits-same, digits-zero, digits-lt}

-- the numbers in the fields of the word at place w
abbrev pub fields_of : ℕ → List ℕ → ℕ → ℕ → ℕ
fields_of fields x w j = slice_index x (w * fields + j)

pub word_of-take : (bits n : ℕ) (x : List ℕ) → word_of bits (take n x) ≡ digits bits n (slice_index x)
word_of-take bits zero x = refl
word_of-take bits (suc n) [] = sym (digits-zero bits (suc n) (slice_index []) (λ j. refl))
word_of-take bits (suc n) (v ∷ x) =
    let rest = ap (λ d. d * 2 ^ bits) (word_of-take bits n x) in
    omega (arith, rest)

pub length-words_of : (count fields bits : ℕ) (x : List ℕ) → length (words_of count fields bits x) ≡ count
length-words_of zero fields bits x = refl
length-words_of (suc count) fields bits x = ap suc (length-words_of count fields bits (drop fields x))

pub words_of-at : (count fields bits : ℕ) (x : List ℕ) (w : ℕ) → w < count
    → slice_index (words_of count fields bits x) w ≡ digits bits fields (fields_of fields x w)
words_of-at zero fields bits x w small = absurd (omega arith)
words_of-at (suc count) fields bits x zero small =
    word_of-take bits fields x
    ∙ digits-same bits fields (slice_index x) (fields_of fields x 0) (λ j within. let e : j ≡ 0 * fields + j = omega arith in ap (slice_index x) e)
words_of-at (suc count) fields bits x (suc w) small =
    words_of-at count fields bits (drop fields x) w (omega arith)
    ∙ digits-same bits fields (fields_of fields (drop fields x) w) (fields_of fields x (suc w))
    (λ j within. let e : fields + (w * fields + j) ≡ suc w * fields + j = omega arith in get_or-drop fields x (w * fields + j) 0 ∙ ap (slice_index x) e)

-- each number of a state fits its field
pub record Fit (bits : ℕ) (x : List ℕ) : Type 0 where
  pub each : (q : ℕ) → slice_index x q < 2 ^ bits

pub AreDigits-fields : (bits fields : ℕ) (x : List ℕ) (w : ℕ) → Fit bits x → AreDigits bits fields (fields_of fields x w)
AreDigits-fields bits fields x w fit = record { each = λ j small. fit.each (w * fields + j) }

-- a word of fields that fit is a word of 64 bits
pub digits-word : (count : ℕ) (p : Packing) (f : ℕ → ℕ) → IsPacking count p → AreDigits p.bits p.fields f → digits p.bits p.fields f < 2 ^ 64
digits-word count p f is fit =
    let e : p.bits * p.fields ≤ 64 = omega (arith, is.fit) in
    let most : 2 ^ (p.bits * p.fields) ≤ 2 ^ 64 = pow_mono e in
    omega (arith, most, digits-lt p.bits p.fields f fit)

module _ (count : ℕ) (p : Packing) (x : List ℕ) where
  pub length-packed : length (packed count p x) ≡ count
  unfolding packed
  length-packed = length-words_of count p.fields p.bits x

  pub packed-at : (w : ℕ) → w < count → slice_index (packed count p x) w ≡ digits p.bits p.fields (fields_of p.fields x w)
  unfolding packed
  packed-at w small = words_of-at count p.fields p.bits x w small

  pub word-lt : IsPacking count p → Fit p.bits x → (w : ℕ) → digits p.bits p.fields (fields_of p.fields x w) < 2 ^ 64
  word-lt is fit w = digits-word count p (fields_of p.fields x w) is (AreDigits-fields p.bits p.fields x w fit)

  pub packed-lt : IsPacking count p → Fit p.bits x → (w : ℕ) → slice_index (packed count p x) w < 2 ^ 64
  packed-lt is fit w = ⊎_elim
      (λ small. subst (λ v. v < 2 ^ 64) (sym (packed-at w small)) (word-lt is fit w))
      (λ past. let e : slice_index (packed count p x) w ≡ 0 = get_or_past (packed count p x) w 0 (omega (arith, length-packed)) in omega arith)
      (cases_lt w count)

-- numbers within the capacities leave the guards free
pub below-guard : (count : ℕ) (p : Packing) (x : List ℕ) → IsPacking count p → IsBelow x p.caps → (q : ℕ) → slice_index x q < 2 ^ (p.bits - 1)
below-guard count p x is below q = ⊎_elim
    (λ small. omega (arith, below.each q small, is.free q (omega (arith, below.same_length))))
    (λ past. let e : slice_index x q ≡ 0 = get_or_past x q 0 past in omega (arith, pow_pos (p.bits - 1)))
    (cases_lt q (length x))

pub twice-guard : (bits : ℕ) → 1 ≤ bits → 2 ^ bits ≡ 2 ^ (bits - 1) + 2 ^ (bits - 1)
twice-guard bits some =
    let e : bits ≡ suc (bits - 1) = omega arith in
    ap (λ k. 2 ^ k) e ∙ omega (arith, pow-suc 2 (bits - 1))

pub below-fit : (count : ℕ) (p : Packing) (x : List ℕ) → IsPacking count p → IsBelow x p.caps → Fit p.bits x
below-fit count p x is below = record {
  each = λ q. omega (arith, below-guard count p x is below q, twice-guard p.bits (omega (arith, is.least)));
}
