-- The first piece of a word, up to its first comma, and the pieces after it.
use Rattle.std.specs.Prelude.{◌≡◌, ◌≢◌, ◌⊎◌, ℕ, ◌+◌, ◌<◌, ◌≤◌, ◌^◌, List, [], ◌∷◌, length, take, drop, true, false, not, Ok, Err, refl}
use Rattle.std.specs.List.{prefix_len, take_while, position_or_len, before_first, after_first}
use Rattle.std.specs.Str.Parse.{digits_value}
use Rattle.std.proofs.Common.{get_or, ap, sym, ◌∙◌, arith, inl, inr}
use Rattle.std.proofs.lemmas.Bool.{eqb-true, eq-eqb, ne_eqb, cases_eq, cases_lt}
use Rattle.std.proofs.lemmas.List.{take_all, drop_all, length-take-le, get_or-take}
use Rattle.std.proofs.lemmas.List.Elements.{All-from_get_or}
use Rattle.std.proofs.lemmas.List.Splits.{slice_split_none, slice_split_first}
use Rattle.std.proofs.lemmas.List.Sums.{prefix_len_passes, prefix_len_stops, prefix_len-le-length, position_or_len_is, fails_before_first, passes_at_first}
use Rattle.psi_log_words.specs.Refusal.{refused}
use Rattle.psi_log_words.specs.Words.{is_comma, is_digit, is_numeral, pieces_of, number_in}
use Rattle.psi_log_words.specs.declared.refusals.LogCause.TheVariants.{Number}
use Rattle.psi_log_words.proofs.NumeralLemmas.{digit_range, is_small, other_behind, not_number, not_small, too_large, too_small, is_number}

-- a digit is no comma
digit_passed : (word : List ℕ) (k : ℕ) → k < prefix_len is_digit word → is_comma (get_or word k 0) ≡ false
digit_passed word k small =
    let range = digit_range (get_or word k 0) (prefix_len_passes is_digit word k 0 small) in
    ne_eqb (get_or word k 0) 44 (λ is. omega arith)

front_less : (word : List ℕ) → prefix_len is_digit word ≢ length word → prefix_len is_digit word < length word
front_less word other = (let most = prefix_len-le-length is_digit word in omega arith)

-- the digits at the front are the whole word, or end at its comma, or another byte follows them
pub whole_piece : (word : List ℕ) → prefix_len is_digit word ≡ length word → position_or_len is_comma word ≡ length word
whole_piece word whole = position_or_len_is is_comma word (length word) 0 (omega arith) (λ k small. digit_passed word k (omega arith)) (λ small. absurd (omega arith))

pub comma_behind : (word : List ℕ) (k : ℕ) → k ≡ prefix_len is_digit word → k < length word → get_or word k 0 ≡ 44 → position_or_len is_comma word ≡ k
comma_behind word k is small comma = position_or_len_is is_comma word k 0 (omega arith) (λ j less. digit_passed word j (omega arith)) (λ less. eq-eqb (get_or word k 0) 44 comma)

pub other_piece : (word : List ℕ) (k : ℕ) → k ≡ prefix_len is_digit word → k < length word → get_or word k 0 ≢ 44 → is_numeral (before_first is_comma word) ≡ false
other_piece word k is small other = elim (cases_lt k (position_or_len is_comma word)) [
  | inl within ↦ (let long : length (before_first is_comma word) ≡ position_or_len is_comma word = length-take-le (position_or_len is_comma word) word (prefix_len-le-length (λ b. not (is_comma b)) word) in
      let stops : is_digit (get_or word k 0) ≡ false = ap (λ (j : ℕ). is_digit (get_or word j 0)) is ∙ prefix_len_stops is_digit word 0 (omega arith) in
      other_behind (before_first is_comma word) k (omega arith) (ap is_digit (get_or-take (position_or_len is_comma word) word k 0 within) ∙ stops))
  | inr past ↦ (let passes : is_comma (get_or word (position_or_len is_comma word) 0) ≡ true = passes_at_first is_comma word 0 (omega arith) in
      let comma : get_or word (position_or_len is_comma word) 0 ≡ 44 = eqb-true (get_or word (position_or_len is_comma word) 0) 44 passes in
      elim (cases_eq (position_or_len is_comma word) k) [
        | inl e ↦ absurd (other (ap (λ (j : ℕ). get_or word j 0) (sym e) ∙ comma))
        | inr ne ↦ (let fails = digit_passed word (position_or_len is_comma word) (omega arith) in absurd cc)
      ])
]

pub longer_word : (n least most : ℕ) (word : List ℕ) → prefix_len is_digit word ≢ length word → number_in n least most word ≡ Err (refused n Number)
longer_word n least most word longer =
    let less : prefix_len is_digit word < length word = front_less word longer in
    not_number n least most word (other_behind word (prefix_len is_digit word) less (prefix_len_stops is_digit word 0 less))

-- so they are the first piece, if they are the whole word or end at its comma
pub front_is_word : (word : List ℕ) → prefix_len is_digit word ≡ length word → take_while is_digit word ≡ word
front_is_word word whole = take_all (prefix_len is_digit word) word (omega arith)

pub front_is_piece : (word : List ℕ) → position_or_len is_comma word ≡ prefix_len is_digit word → take_while is_digit word ≡ before_first is_comma word
front_is_piece word is = ap (λ (k : ℕ). take k word) (sym is)

pub nothing_behind : (word : List ℕ) → position_or_len is_comma word ≡ length word → after_first is_comma word ≡ []
nothing_behind word is = ap (λ (k : ℕ). drop (k + 1) word) is ∙ drop_all (length word + 1) word (omega arith)

-- and else another byte in the piece follows them
pub front_or_other : (word : List ℕ) → (take_while is_digit word ≡ before_first is_comma word) ⊎ (is_numeral (before_first is_comma word) ≡ false)
front_or_other word = elim (cases_eq (prefix_len is_digit word) (length word)) [
  | inl all ↦ inl (front_is_piece word (whole_piece word all ∙ sym all))
  | inr longer ↦ elim (cases_eq (get_or word (prefix_len is_digit word) 0) 44) [
    | inl comma ↦ inl (front_is_piece word (comma_behind word (prefix_len is_digit word) refl (front_less word longer) comma))
    | inr other ↦ inr (other_piece word (prefix_len is_digit word) refl (front_less word longer) other)
  ]
]

-- a piece isn't a number where its front is none
pub small_piece : (n most : ℕ) (word : List ℕ) → most < 2 ^ 64 → is_small (take_while is_digit word) ≡ false → number_in n 0 most (before_first is_comma word) ≡ Err (refused n Number)
small_piece n most word fits small =
    elim (front_or_other word) [
      | inl same ↦ not_small n 0 most (before_first is_comma word) fits (ap is_small (sym same) ∙ small)
      | inr other ↦ not_number n 0 most (before_first is_comma word) other
    ]

-- or is above the greatest number
pub large_piece : (n most : ℕ) (word : List ℕ) → most < digits_value 10 (take_while is_digit word) → number_in n 0 most (before_first is_comma word) ≡ Err (refused n Number)
large_piece n most word large =
    elim (front_or_other word) [
      | inl same ↦ too_large n 0 most (before_first is_comma word) (let value = ap (digits_value 10) same in omega arith)
      | inr other ↦ not_number n 0 most (before_first is_comma word) other
    ]

pub right_piece : (n most : ℕ) (word : List ℕ) → position_or_len is_comma word ≡ prefix_len is_digit word → is_numeral (take_while is_digit word) ≡ true
    → digits_value 10 (take_while is_digit word) ≤ most → number_in n 0 most (before_first is_comma word) ≡ Ok (digits_value 10 (take_while is_digit word))
right_piece n most word ends numeral high =
    ap (number_in n 0 most) (sym (front_is_piece word ends)) ∙ is_number n 0 most (take_while is_digit word) numeral (omega arith) high

-- and so is a word
pub small_word : (n least most : ℕ) (word : List ℕ) → most < 2 ^ 64 → is_small (take_while is_digit word) ≡ false → number_in n least most word ≡ Err (refused n Number)
small_word n least most word fits small = elim (cases_eq (prefix_len is_digit word) (length word)) [
  | inl whole ↦ not_small n least most word fits (ap is_small (sym (front_is_word word whole)) ∙ small)
  | inr longer ↦ longer_word n least most word longer
]

pub right_word : (n least most : ℕ) (word : List ℕ) → prefix_len is_digit word ≡ length word → is_numeral (take_while is_digit word) ≡ true
    → least ≤ digits_value 10 (take_while is_digit word) → digits_value 10 (take_while is_digit word) ≤ most → number_in n least most word ≡ Ok (digits_value 10 (take_while is_digit word))
right_word n least most word whole numeral low high =
    ap (number_in n least most) (sym (front_is_word word whole)) ∙ is_number n least most (take_while is_digit word) numeral low high

pub high_word : (n least most : ℕ) (word : List ℕ) → prefix_len is_digit word ≡ length word → most < digits_value 10 (take_while is_digit word) → number_in n least most word ≡ Err (refused n Number)
high_word n least most word whole high = too_large n least most word (let value = ap (digits_value 10) (front_is_word word whole) in omega arith)

pub low_word : (n least most : ℕ) (word : List ℕ) → prefix_len is_digit word ≡ length word → digits_value 10 (take_while is_digit word) < least → number_in n least most word ≡ Err (refused n Number)
low_word n least most word whole low = too_small n least most word (let value = ap (digits_value 10) (front_is_word word whole) in omega arith)

-- the pieces of a word that has a comma, and of one that has none
has_comma : (word : List ℕ) → position_or_len is_comma word < length word → pieces_of word ≡ before_first is_comma word ∷ pieces_of (after_first is_comma word)
has_comma word small = slice_split_first is_comma word 0 small

has_none : (word : List ℕ) → length word ≤ position_or_len is_comma word → pieces_of word ≡ before_first is_comma word ∷ []
has_none word past =
    slice_split_none is_comma word (All-from_get_or (λ b. is_comma b ≡ false) word 0 (λ k small. fails_before_first is_comma word k 0 (omega arith)))
    ∙ ap (λ (piece : List ℕ). piece ∷ []) (sym (take_all (position_or_len is_comma word) word past))

-- the first piece and the rest
with_rest : (pieces : List (List ℕ)) (first : List ℕ) (rest : List (List ℕ)) → pieces ≡ first ∷ rest → pieces ≡ first ∷ drop 1 pieces
with_rest pieces first rest is = rw is refl

pub first_and_rest : (word : List ℕ) → pieces_of word ≡ before_first is_comma word ∷ drop 1 (pieces_of word)
first_and_rest word = elim (cases_lt (position_or_len is_comma word) (length word)) [
  | inl less ↦ with_rest _ _ _ (has_comma word less)
  | inr past ↦ with_rest _ _ _ (has_none word past)
]

-- what follows the comma has the rest as its pieces, where there is one
pub rest_pieces : (word : List ℕ) → 2 ≤ length (pieces_of word) → pieces_of (after_first is_comma word) ≡ drop 1 (pieces_of word)
rest_pieces word two = elim (cases_lt (position_or_len is_comma word) (length word)) [
  | inl less ↦ sym (ap (drop 1) (has_comma word less))
  | inr past ↦ (let one : length (pieces_of word) ≡ 1 = ap length (has_none word past) in absurd (omega arith))
]
