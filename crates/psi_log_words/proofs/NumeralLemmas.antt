-- The numeral at the front of a word, and the number that it writes, digit by digit.
use Rattle.std.specs.Prelude.{◌≡◌, ℕ, ◌+◌, ◌-◌, ◌*◌, ◌<◌, ◌≤◌, ◌^◌, List, [], ◌∷◌, length, take, Bool, true, false, ◌&&◌, nat_le, nat_lt, Ok, Err, refl}
use Rattle.std.specs.List.{list_all, prefix_len, take_while}
use Rattle.std.specs.Char.{digit_value}
use Rattle.std.specs.Str.Parse.{digits_value}
use Rattle.std.proofs.Common.{inl, inr, get_or, ap, sym, ◌∙◌, subst, arith, below_more}
use Rattle.std.proofs.Math.Bool.{and-false}
use Rattle.std.proofs.lemmas.Bool.{cases_Bool, true≢false, lt-ltb, cases_lt, and_parts, and_from, le-leb, leb-true, lt-leb, false_from_ne_true}
use Rattle.std.proofs.lemmas.List.{take-take, length-take-le, get_or-take}
use Rattle.std.proofs.lemmas.List.Folds.{list_all_at}
use Rattle.std.proofs.lemmas.List.Sums.{prefix_len_is, prefix_len_stops, prefix_len-le-length, take_while-cons}
use Rattle.std.proofs.lemmas.Int.Digits.{digits_value_more}
use Rattle.std.proofs.lemmas.Str.{digit_value_digit}
use Rattle.std.proofs.lemmas.Str.Parse.{digits_value-take-le}
use Rattle.psi_log_words.specs.Refusal.{refused}
use Rattle.psi_log_words.specs.Words.{is_digit, is_numeral, number_in}
use Rattle.psi_log_words.specs.declared.refusals.LogCause.TheVariants.{Number}
use Rattle.psi_log_words.proofs.NumberLemmas.{numeral_from, numeral_parts}

-- the bytes so far are digits
pub record AreDigits (word : List ℕ) (i : ℕ) : Type 0 where
  pub small : i ≤ length word
  pub each : (k : ℕ) → k < i → is_digit (get_or word k 0) ≡ true

pub digit_range : (b : ℕ) → is_digit b ≡ true → (48 ≤ b) × (b ≤ 57)
digit_range b is = (let parts = and_parts (nat_le 48 b) (nat_le b 57) is in (leb-true 48 b parts.0, leb-true b 57 parts.1))

pub digits_more : (word : List ℕ) (i : ℕ) → AreDigits word i → i < length word → is_digit (get_or word i 0) ≡ true → AreDigits word (i + 1)
digits_more word i are small is = record { small = omega arith; each = below_more (λ (k : ℕ). is_digit (get_or word k 0) ≡ true) i are.each is }

-- they are all that are at the front
pub digits_are : (word : List ℕ) (i : ℕ) → AreDigits word i → (i < length word → is_digit (get_or word i 0) ≡ false) → prefix_len is_digit word ≡ i
digits_are word i are stops = prefix_len_is is_digit word i 0 are.small are.each stops

pub digits_value_are : (word : List ℕ) (i : ℕ) → AreDigits word i → (i < length word → is_digit (get_or word i 0) ≡ false)
    → digits_value 10 (take i word) ≡ digits_value 10 (take_while is_digit word)
digits_value_are word i are stops = ap (λ (k : ℕ). digits_value 10 (take k word)) (sym (digits_are word i are stops))

-- one digit more
pub value_more : (word : List ℕ) (i : ℕ) → i < length word → is_digit (get_or word i 0) ≡ true
    → digits_value 10 (take (i + 1) word) ≡ digits_value 10 (take i word) * 10 + (get_or word i 0 - 48)
value_more word i small is =
    let range = digit_range (get_or word i 0) is in
    let digit : digit_value (get_or word i 0) + 48 ≡ get_or word i 0 = digit_value_digit (get_or word i 0) range in
    let more = digits_value_more 10 word i small in
    omega arith

-- the number is at least that of the digits so far
pub value_over : (word : List ℕ) (i : ℕ) → AreDigits word i → digits_value 10 (take i word) ≤ digits_value 10 (take_while is_digit word)
value_over word i are =
    let within : i ≤ prefix_len is_digit word = elim (cases_lt (prefix_len is_digit word) i) [
      | inl less ↦ (let stops = prefix_len_stops is_digit word 0 (let small = are.small in omega arith) in
          let passes = are.each (prefix_len is_digit word) less in
          absurd cc)
      | inr within ↦ within
    ] in
    let front : take i (take_while is_digit word) ≡ take i word = take-take i (prefix_len is_digit word) word within in
    subst (λ (w : List ℕ). digits_value 10 w ≤ digits_value 10 (take_while is_digit word)) front (digits_value-take-le 10 (take_while is_digit word) i (omega arith))

pub front_digits : (word : List ℕ) → list_all is_digit (take_while is_digit word) ≡ true
front_digits [] = refl
front_digits (b ∷ word) = elim (cases_Bool (is_digit b)) [
  | inl holds ↦ rw (take_while-cons is_digit b word, holds) (and_from (is_digit b) (list_all is_digit (take_while is_digit word)) holds (front_digits word))
  | inr fails ↦ rw (take_while-cons is_digit b word, fails) refl
]

-- the digits are a numeral whose number has 64 bits
abbrev pub is_small : List ℕ → Bool
is_small front = is_numeral front && nat_lt (digits_value 10 front) (2 ^ 64)

pub numeral_front : (word : List ℕ) → 1 ≤ prefix_len is_digit word → (get_or word 0 0 ≡ 48 → prefix_len is_digit word ≡ 1) → is_numeral (take_while is_digit word) ≡ true
numeral_front word some one =
    let long : length (take_while is_digit word) ≡ prefix_len is_digit word = length-take-le (prefix_len is_digit word) word (prefix_len-le-length is_digit word) in
    numeral_from (take_while is_digit word) (front_digits word) (omega arith)
    (λ zero. long ∙ one (sym (get_or-take (prefix_len is_digit word) word 0 0 (omega arith)) ∙ zero))

-- a word with another byte after its digits is no numeral
pub other_behind : (word : List ℕ) (i : ℕ) → i < length word → is_digit (get_or word i 0) ≡ false → is_numeral word ≡ false
other_behind word i small other =
    false_from_ne_true (is_numeral word) (λ is. (let all = (numeral_parts word is).0 in let none = list_all_at is_digit word i 0 small other in absurd cc))

-- what is refused as a number
pub not_number : (n least most : ℕ) (word : List ℕ) → is_numeral word ≡ false → number_in n least most word ≡ Err (refused n Number)
unfolding number_in
not_number n least most word other = rw other refl

pub too_large : (n least most : ℕ) (word : List ℕ) → most < digits_value 10 word → number_in n least most word ≡ Err (refused n Number)
unfolding number_in
too_large n least most word large = rw (lt-leb (digits_value 10 word) most large, and-false (is_numeral word && nat_le least (digits_value 10 word))) refl

pub too_small : (n least most : ℕ) (word : List ℕ) → digits_value 10 word < least → number_in n least most word ≡ Err (refused n Number)
unfolding number_in
too_small n least most word small = rw (lt-leb least (digits_value 10 word) small, and-false (is_numeral word)) refl

pub not_small : (n least most : ℕ) (word : List ℕ) → most < 2 ^ 64 → is_small word ≡ false → number_in n least most word ≡ Err (refused n Number)
not_small n least most word fits other = elim (cases_Bool (is_numeral word)) [
  | inl numeral ↦ elim (cases_lt (digits_value 10 word) (2 ^ 64)) [
    | inl small ↦ absurd (true≢false (sym (and_from _ _ numeral (lt-ltb _ _ small)) ∙ other))
    | inr large ↦ too_large n least most word (omega arith)
  ]
  | inr none ↦ not_number n least most word none
]

-- and what is read as one
pub is_number : (n least most : ℕ) (word : List ℕ) → is_numeral word ≡ true → least ≤ digits_value 10 word → digits_value 10 word ≤ most → number_in n least most word ≡ Ok (digits_value 10 word)
unfolding number_in
is_number n least most word numeral low high = rw (numeral, le-leb least (digits_value 10 word) low, le-leb (digits_value 10 word) most high) refl
