-- Numbers as words.
use Rattle.std.specs.Prelude.{◌≡◌, ◌⊎◌, ℕ, zero, suc, ◌<◌, ◌≤◌, ◌^◌, List, length, slice_index, true, false, not, ◌&&◌, ◌||◌, ◌==◌, nat_lt, nat_le, Option, if◌then◌else◌, Some, None, Result, Ok, Err, refl}
use Rattle.std.specs.List.{list_all}
use Rattle.std.specs.Result.{result_ok, OkIff}
use Rattle.std.specs.Fmt.{decimal}
use Rattle.std.specs.Str.Parse.{ParsesUnsigned, digits_value}
use Rattle.std.proofs.Common.{rules, arith, ap, sym, ◌∙◌, inl, inr}
use Rattle.std.proofs.lemmas.Bool.{and_parts, cases_Bool, cases_lt, le-leb, lt-leb, lt-ltb, ltb-true, ne_eqb}
use Rattle.std.proofs.lemmas.Fmt.{decimal_nonempty, first_decimal, length-decimal-le, digits_decimal, digits_value-decimal}
use Rattle.std.proofs.lemmas.Str.Parse.{IsNumeralModel, numerals_by_value, parse_digits}
use Rattle.psi_command.specs.Words.{is_digit, is_numeral, greatest_number, number_up_to}

own : IsNumeralModel (λ word. list_all is_digit word ≡ true) (digits_value 10)
own = numerals_by_value _ (search rules)

-- a numeral has a digit, and nothing but digits
numeral-digits : (word : List ℕ) → is_numeral word ≡ true → (0 < length word) × (list_all is_digit word ≡ true)
numeral-digits word is =
    let digits = and_parts (nat_lt 0 (length word) && (nat_le (length word) 1 || not (slice_index word 0 == 48))) (list_all is_digit word) is in
    let parts = and_parts (nat_lt 0 (length word)) (nat_le (length word) 1 || not (slice_index word 0 == 48)) digits.0 in
    (ltb-true 0 (length word) parts.0, digits.1)

-- no digit is no numeral
pub numeral_empty : (word : List ℕ) → length word ≡ 0 → is_numeral word ≡ false
numeral_empty word none = rw none refl

-- nor are several digits with a 0 in front
pub numeral_zero : (word : List ℕ) → 1 < length word → slice_index word 0 ≡ 48 → is_numeral word ≡ false
numeral_zero word several none =
    let some : 0 < length word = omega arith in
    rw (lt-ltb 0 (length word) some, lt-leb (length word) 1 several, none) refl

-- one byte is a numeral where it is a digit
pub numeral_one : (word : List ℕ) → 0 < length word → length word ≤ 1 → is_numeral word ≡ list_all is_digit word
numeral_one word some one = rw (lt-ltb 0 (length word) some, le-leb (length word) 1 one) refl

-- and so are several bytes of which the first isn't 0
pub numeral_more : (word : List ℕ) → 0 < length word → (slice_index word 0 ≡ 48 → ⊥) → is_numeral word ≡ list_all is_digit word
numeral_more word some other =
    elim (cases_lt 1 (length word)) [
      | inl several ↦ rw (lt-ltb 0 (length word) some, lt-leb (length word) 1 several, ne_eqb (slice_index word 0) 48 other) refl
      | inr one ↦ numeral_one word some one
    ]

-- a number of 64 bits that is read is at most the greatest one, and what isn't read is greater
read-bounded : {E : Type 0} (some : Type 0) (n : ℕ) (read : Result ℕ E) → some → OkIff read (some × (n < 2 ^ 64)) n
    → ((result_ok read ≡ Some n) × (n ≤ greatest_number)) ⊎ ((result_ok read ≡ None) × (greatest_number < n))
read-bounded some n (Ok m) has is = (let small : n < 2 ^ 64 = is.0.1 in inl (ap Some is.1, omega arith))
read-bounded some n (Err e) has is =
    elim (cases_lt greatest_number n) [
      | inl greater ↦ inr (refl, greater)
      | inr few ↦ (let small : n < 2 ^ 64 = omega arith in absurd (is (has, small)))
    ]

-- what std reads of a numeral is its number, where that has 64 bits
pub number_parsed : {E : Type 0} (word : List ℕ) (read : Result ℕ E) → ParsesUnsigned 64 10 word read → is_numeral word ≡ true
    → result_ok read ≡ number_up_to greatest_number word
unfolding number_up_to
number_parsed word read parses is =
    let digits : (0 < length word) × (list_all is_digit word ≡ true) = numeral-digits word is in
    elim (read-bounded (0 < length word) (digits_value 10 word) read digits.0 (parse_digits own 64 word read parses digits.1)) [
      | inl few ↦ few.0 ∙ rw (is, le-leb (digits_value 10 word) greatest_number few.1) refl
      | inr many ↦ many.0 ∙ rw (is, lt-leb (digits_value 10 word) greatest_number many.1) refl
    ]

-- and another word is no number
pub number_none : (word : List ℕ) → is_numeral word ≡ false → number_up_to greatest_number word ≡ None
unfolding number_up_to
number_none word is = rw is refl

-- the decimal digits of a number are a numeral
decimal-numeral : (n : ℕ) → n < 2 ^ 64 → is_numeral (decimal n) ≡ true
decimal-numeral zero small =
    numeral_one (decimal zero) (decimal_nonempty zero small) (length-decimal-le 1 zero (omega arith) (omega arith) small) ∙ digits_decimal own zero small
decimal-numeral (suc n) small =
    let first : 48 < slice_index (decimal (suc n)) 0 = first_decimal (suc n) (omega arith) small in
    numeral_more (decimal (suc n)) (decimal_nonempty (suc n) small) (λ is. omega arith) ∙ digits_decimal own (suc n) small

-- and are read as that number
pub number_written : (n : ℕ) → n < 2 ^ 64 → number_up_to greatest_number (decimal n) ≡ Some n
unfolding number_up_to
number_written n small =
    let value : digits_value 10 (decimal n) ≡ n = digits_value-decimal own n small in
    rw (decimal-numeral n small, value, le-leb n greatest_number (omega arith)) refl

-- the number that is read, where it is at most so many
abbrev pub at_most : ℕ → Option ℕ → Option ℕ
at_most most None = None
at_most most (Some n) = if nat_le n most then Some n else None

-- a number of at most so many is one of 64 bits
pub number_at_most : (word : List ℕ) (most : ℕ) → most ≤ greatest_number → number_up_to most word ≡ at_most most (number_up_to greatest_number word)
unfolding number_up_to
number_at_most word most small =
    elim (cases_Bool (is_numeral word)) [
      | inl numeral ↦ elim (cases_lt greatest_number (digits_value 10 word)) [
        | inl many ↦ rw (numeral, lt-leb (digits_value 10 word) greatest_number many, lt-leb (digits_value 10 word) most (omega arith)) refl
        | inr few ↦ rw (numeral, le-leb (digits_value 10 word) greatest_number few) refl
      ]
      | inr other ↦ rw other refl
    ]

-- and none where there is none of 64 bits
pub number_unread : (word : List ℕ) (most : ℕ) (read : Option ℕ) → most ≤ greatest_number → read ≡ number_up_to greatest_number word → read ≡ None
    → None ≡ number_up_to most word
number_unread word most read small is none = sym (number_at_most word most small ∙ ap (at_most most) (sym is ∙ none))
