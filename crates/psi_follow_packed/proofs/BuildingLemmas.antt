-- How a word is made field by field, and read.
use Rattle.std.specs.Prelude.{◌≡◌, ℕ, suc, ◌+◌, ◌-◌, ◌*◌, ◌/◌, ◌%◌, ◌^◌, ◌<◌, ◌≤◌, List, length, map, slice_index, slice_index_or, bit_and}
use Rattle.std.proofs.Common.{ap, ap₂, sym, subst, ◌∙◌, arith, pow_mono, pow_pos, add-one-le, below_more, ⊎_elim}
use Rattle.std.proofs.lemmas.Bool.{cases_lt}
use Rattle.std.proofs.lemmas.List.{get_or_past, length-map}
use native.Mathlib.Nat.{mul-le-mul_left}
use Rattle.std.proofs.lemmas.Nat.{one_shl, and_mask, leading_length, leading_top, le-div}
use Rattle.std.proofs.lemmas.Grind.{same_number_lists}
use Rattle.std.specs.Int.Count.{count_leading_zeros}
use Rattle.psi_state.specs.State.{IsBelow}
use Rattle.psi_event.specs.declared.sides.Side.{Side}
use Rattle.psi_event.specs.declared.sides.Side.TheVariants.{Any}
use Rattle.psi_follow_packed.specs.Packed.{Packing, IsPacking, LeavesFree, packed}
use Rattle.psi_follow_packed.proofs.DigitsLemmas.{digits, digits-same, digits-zero, digits-lt, digits-at}
use Rattle.psi_follow_packed.proofs.WordsLemmas.{fields_of, Fit, AreDigits-fields, packed-at, below-fit}
use Rattle.psi_follow_packed.proofs.TestingLemmas.{mapped-at, sided-at}

-- numbers that fit up to the last queue fit everywhere
pub fit-from : (bits : ℕ) (x : List ℕ) → ((q : ℕ) → q < length x → slice_index x q < 2 ^ bits) → Fit bits x
fit-from bits x each = record {
  each = λ q. ⊎_elim (each q) (λ past. let e : slice_index x q ≡ 0 = get_or_past x q 0 past in omega (arith, pow_pos bits)) (cases_lt q (length x));
}

-- the numbers of the last fields of a word, so many of them
abbrev pub last_fields : List ℕ → ℕ → ℕ → ℕ → ℕ → ℕ
last_fields x first fields done j = slice_index x (first + (fields - done + j))

module _ (bits fields done first word : ℕ) (x : List ℕ) (within : done < fields) (made : word ≡ digits bits done (last_fields x first fields done)) where
  pub word-more : word * 2 ^ bits + slice_index x (first + (fields - 1 - done)) ≡ digits bits (done + 1) (last_fields x first fields (done + 1))
  word-more =
      let place : fields - 1 - done ≡ fields - (done + 1) + 0 = omega arith in
      let count : suc done ≡ done + 1 = omega arith in
      ap₂ (λ d k. d * 2 ^ bits + slice_index x (first + k))
      (made ∙ digits-same bits done (last_fields x first fields done) (λ j. last_fields x first fields (done + 1) (suc j))
      (λ j small. let e : fields - done + j ≡ fields - (done + 1) + suc j = omega arith in ap (λ k. slice_index x (first + k)) e)) place
      ∙ ap (λ n. digits bits n (last_fields x first fields (done + 1))) count

  pub word-none : length x ≤ first + (fields - 1 - done) → word ≡ digits bits (done + 1) (last_fields x first fields (done + 1))
  word-none past =
      let last : slice_index x (first + (fields - 1 - done)) ≡ 0 = get_or_past x _ 0 past in
      let none : word ≡ 0 = made ∙ digits-zero bits done (last_fields x first fields done) (λ j. get_or_past x _ 0 (omega arith)) in
      let e : word ≡ word * 2 ^ bits + slice_index x (first + (fields - 1 - done)) = none ∙ sym (ap₂ (λ d v. d * 2 ^ bits + v) none last ∙ omega arith) in
      e ∙ word-more

  pub word-fits : Fit bits x → bits * fields ≤ 64 → word * 2 ^ bits + slice_index x (first + (fields - 1 - done)) < 2 ^ 64
  word-fits fit few =
      let e : bits * (done + 1) ≤ 64 = omega (arith, mul-le-mul_left bits (add-one-le within)) in
      let most : 2 ^ (bits * (done + 1)) ≤ 2 ^ 64 = pow_mono e in
      let small : digits bits (done + 1) (last_fields x first fields (done + 1)) < 2 ^ (bits * (done + 1))
      = digits-lt bits (done + 1) (last_fields x first fields (done + 1)) (record { each = λ j below. fit.each _ }) in
      omega (arith, word-more)

-- all fields are the word
pub word-whole : (count : ℕ) (p : Packing) (x : List ℕ) (w word : ℕ) → w < count → word ≡ digits p.bits p.fields (last_fields x (w * p.fields) p.fields p.fields)
    → word ≡ slice_index (packed count p x) w
word-whole count p x w word small made =
    made
    ∙ digits-same p.bits p.fields (last_fields x (w * p.fields) p.fields p.fields) (fields_of p.fields x w)
    (λ j within. let e : p.fields - p.fields + j ≡ j = omega arith in ap (λ k. slice_index x (w * p.fields + k)) e)
    ∙ sym (packed-at count p x w small)

-- a field is read by a shift and a mask
pub number-is : (count : ℕ) (p : Packing) (x words : List ℕ) (at field : ℕ) → IsPacking count p → at < count → field < p.fields → IsBelow x p.caps → words ≡ packed count p x
    → bit_and (slice_index words at / 2 ^ (field * p.bits)) (1 * 2 ^ p.bits % 2 ^ 64 - 1) ≡ slice_index x (at * p.fields + field)
number-is count p x words at field is place small below same =
    let high : p.bits < 64 = omega (arith, is.most) in
    let turned : field * p.bits ≡ p.bits * field = omega arith in
    ap₂ (λ (ws : List ℕ) m. bit_and (slice_index ws at / 2 ^ (field * p.bits)) (m - 1)) same (one_shl p.bits 64 high)
    ∙ ap₂ (λ d k. bit_and (d / 2 ^ k) (2 ^ p.bits - 1)) (packed-at count p x at place) turned
    ∙ and_mask (digits p.bits p.fields (fields_of p.fields x at) / 2 ^ (p.bits * field)) p.bits
    ∙ digits-at p.bits p.fields (fields_of p.fields x at) field (AreDigits-fields p.bits p.fields x at (below-fit count p x is below)) small

-- a list that has at each place what a list made number by number has is that list
pub same-mapped : (f : ℕ → ℕ) (x y : List ℕ) → length y ≡ length x → ((q : ℕ) → q < length x → slice_index y q ≡ f (slice_index x q)) → y ≡ map f x
same-mapped f x y long each =
    same_number_lists y (map f x) (long ∙ sym (length-map x f)) (λ q small. let within : q < length x = omega arith in each q within ∙ sym (mapped-at f x q within))

pub same-sided : (f : Side → ℕ) (sides : List Side) (y : List ℕ) → length y ≡ length sides → ((q : ℕ) → q < length sides → slice_index y q ≡ f (slice_index_or sides q Any)) → y ≡ map f sides
same-sided f sides y long each =
    same_number_lists y (map f sides) (long ∙ sym (length-map sides f)) (λ q small. let within : q < length sides = omega arith in each q within ∙ sym (sided-at f sides q within))

-- how many bits a number of 16 bits needs
pub own-fits : (v : ℕ) → v < 2 ^ 16 → v < 2 ^ (17 - count_leading_zeros 16 v - 1)
own-fits v small =
    let l = leading_length 16 v small in
    let e : l.0 ≡ 17 - count_leading_zeros 16 v - 1 = omega (arith, l.1) in
    subst (λ k. v < 2 ^ k) e l.2

-- the bits that the queues so far need, and those that the next one needs
pub bits-more : (caps : List ℕ) (queue bits more v : ℕ) → v < 2 ^ 16 → v ≡ slice_index caps queue → bits ≤ more → 17 - count_leading_zeros 16 v ≤ more
    → ((q : ℕ) → q < queue → slice_index caps q < 2 ^ (bits - 1)) → (q : ℕ) → q < queue + 1 → slice_index caps q < 2 ^ (more - 1)
bits-more caps queue bits more v small is rising own each =
    let before : bits - 1 ≤ more - 1 = omega arith in
    let here : 17 - count_leading_zeros 16 v - 1 ≤ more - 1 = omega arith in
    let raised : 2 ^ (bits - 1) ≤ 2 ^ (more - 1) = pow_mono before in
    let most : 2 ^ (17 - count_leading_zeros 16 v - 1) ≤ 2 ^ (more - 1) = pow_mono here in
    below_more (λ q. slice_index caps q < 2 ^ (more - 1)) queue (λ q under. omega (arith, each q under)) (omega (arith, own-fits v small))

-- a number that isn't 0 needs no fewer bits
pub own-least : (v bits : ℕ) → 0 < v → v < 2 ^ 16 → 2 ≤ bits → v < 2 ^ (bits - 1) → 17 - count_leading_zeros 16 v ≤ bits
own-least v bits some small two fits =
    let top = leading_top 16 v some small in
    ⊎_elim
    (λ (less : top.0 < bits - 1). omega (arith, top.1))
    (λ (more : bits - 1 ≤ top.0). let most : 2 ^ (bits - 1) ≤ 2 ^ top.0 = pow_mono more in absurd (omega (arith, top.2)))
    (cases_lt top.0 (bits - 1))

-- what the least bits of a field say of every packing
pub packing-needs : (count bits : ℕ) (caps : List ℕ) (p : Packing) → 2 ≤ bits → ((b : ℕ) → 2 ≤ b → LeavesFree caps b → bits ≤ b) → p.caps ≡ caps → IsPacking count p
    → (count ≤ 32) × (bits ≤ 16) × (length caps ≤ count * (64 / bits))
packing-needs count bits caps p two least same is =
    let fewer : bits ≤ p.bits = least p.bits is.least (subst (λ (l : List ℕ). LeavesFree l p.bits) same is.free) in
    let fields : p.fields ≤ 64 / bits = le-div p.fields 64 bits (omega arith) (omega (arith, mul-le-mul_left p.fields fewer, is.fit)) in
    (is.words, omega (arith, is.most), omega (arith, is.enough, ap (λ (l : List ℕ). length l) same, mul-le-mul_left count fields))
