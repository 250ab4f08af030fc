-- The words of the queues that changed, told from the bits of a number.
use Rattle.std.specs.Prelude.{◌≡◌, ◌==◌, ◌&&◌, if◌then◌else◌, ℕ, zero, suc, ◌+◌, ◌-◌, ◌*◌, ◌%◌, ◌^◌, ◌<◌, ◌≤◌, Bool, true, false, List, [], ◌∷◌, ◌++◌, length, slice_index, codes, refl, bit_and}
use Rattle.std.specs.Int.{bit_at, trailing_zeros}
use Rattle.std.proofs.Common.{inl, inr, ap, sym, ◌∙◌, arith, w32}
use Rattle.std.proofs.lemmas.Bool.{cases_lt, true≢false}
use Rattle.std.proofs.lemmas.List.{append-nil, get_or_past}
use Rattle.std.proofs.lemmas.Nat.Bits.{bit_at-zero, bit_at-trailing_zeros, bit_at_clear_same, bit_at_clear_other}
use Rattle.psi_state.specs.State.{Corners, IsBelow, numbers_from}
use Rattle.psi_log_format.specs.Text.{change_to, change_text}
use Rattle.psi_log_format.specs.Room.{Puts, spaced_words, picked}
use Rattle.psi_log_format.proofs.JoinedLemmas.{picked-append, numbers_from-append, then_words, move-more}

-- whether a queue has the same numbers in both boxes
abbrev pub same : Corners → Corners → ℕ → Bool
same from to i = slice_index from.lo i == slice_index to.lo i && slice_index from.hi i == slice_index to.hi i

-- so many words are told of the queues before the next one, and the bits from there on tell which others changed
pub record AreTold (from to : Corners) (old new : List ℕ) (at end left turn : ℕ) : Type 0 where
  pub next : ℕ
  pub turns : turn ≤ next
  pub most : next ≤ length from.lo
  pub done : (i : ℕ) → i < next → bit_at left i ≡ 0
  pub rest : (i : ℕ) → next ≤ i → i < 32 → bit_at left i ≡ (if same from to i then 0 else 1)
  pub text : Puts old new at end (spaced_words (codes "move" ∷ picked from to (numbers_from 0 next)))
  pub short : end ≤ at + 5 + 33 * next

-- queues of which none changed have no words
picked-none : (from to : Corners) (first n : ℕ) → ((i : ℕ) → first ≤ i → i < first + n → same from to i ≡ true) → picked from to (numbers_from first n) ≡ []
picked-none from to first zero none = refl
picked-none from to first (suc n) none =
    rw (none first (omega arith) (omega arith)) (picked-none from to (suc first) n (λ i above below. none i (omega arith) (omega arith)))

-- nor do they add any
pub picked-skip : (from to : Corners) (m n : ℕ) → m ≤ n → ((i : ℕ) → m ≤ i → i < n → same from to i ≡ true)
    → picked from to (numbers_from 0 n) ≡ picked from to (numbers_from 0 m)
picked-skip from to m n few none =
    let e : n ≡ m + (n - m) = omega arith in
    ap (λ k. picked from to (numbers_from 0 k)) e
    ∙ ap (picked from to) (numbers_from-append 0 m (n - m) m (omega arith))
    ∙ picked-append from to (numbers_from 0 m) (numbers_from m (n - m))
    ∙ ap (λ (ws : List (List ℕ)). picked from to (numbers_from 0 m) ++ ws) (picked-none from to m (n - m) (λ i above below. none i above (omega arith)))
    ∙ append-nil (picked from to (numbers_from 0 m))

bit-zero : (b : Bool) → (let n : ℕ = (if b then 0 else 1) in n ≡ 0) → b ≡ true
bit-zero true e = refl
bit-zero false e = absurd (omega arith)

bit-one : (b : Bool) → (let n : ℕ = (if b then 0 else 1) in n ≡ 1) → b ≡ false
bit-one true e = absurd (omega arith)
bit-one false e = refl

-- after the last queue both boxes have no number
same-past : {from to : Corners} → IsBelow from.lo from.hi → IsBelow to.lo to.hi → length from.lo ≡ length to.lo → (i : ℕ) → length from.lo ≤ i → same from to i ≡ true
same-past {from} {to} own others alike i past =
    let a = own.same_length in let b = others.same_length in
    rw (get_or_past from.lo i 0 past, get_or_past to.lo i 0 (omega arith), get_or_past from.hi i 0 (omega arith), get_or_past to.hi i 0 (omega arith)) refl

module _ (from to : Corners) (old new : List ℕ) (at end left turn : ℕ) (told : AreTold from to old new at end left turn) (few : length from.lo ≤ 32) where
  -- where no bit is left, all words are told
  pub told-all : left ≡ 0 → Puts old new at end (spaced_words (codes "move" ∷ picked from to (numbers_from 0 (length from.lo))))
  told-all none =
      let alike : (i : ℕ) → told.next ≤ i → i < length from.lo → same from to i ≡ true =
      (λ i above below. bit-zero (same from to i) (sym (told.rest i above (omega arith)) ∙ (ap (λ n. bit_at n i) none ∙ bit_at-zero i))) in
      rw (picked-skip from to told.next (length from.lo) told.most alike) told.text

  -- nor is one left after the last queue
  pub told-last : turn ≡ length from.lo → Puts old new at end (spaced_words (codes "move" ∷ picked from to (numbers_from 0 (length from.lo))))
  told-last last =
      let all : length from.lo ≡ told.next = (let a = told.turns in let b = told.most in omega arith) in
      rw all told.text

  pub told-short : end ≤ at + 1061
  told-short = (let a = told.short in let b = told.most in omega arith)

  module _ (some : left ≡ 0 → ⊥) (fits : left < 2 ^ 32) where
    lowest : (trailing_zeros w32 left < 32) × (bit_at left (trailing_zeros w32 left) ≡ 1) × ((i : ℕ) → i < trailing_zeros w32 left → bit_at left i ≡ 0)
    lowest = bit_at-trailing_zeros w32 left (omega (arith, some)) fits

    pub place-above : told.next ≤ trailing_zeros w32 left
    place-above = elim (cases_lt (trailing_zeros w32 left) told.next) [
      | inl before ↦ absurd (let z = told.done (trailing_zeros w32 left) before in let o = lowest.1 in omega arith)
      | inr above ↦ above
    ]

    pub place-changed : same from to (trailing_zeros w32 left) ≡ false
    place-changed = bit-one (same from to (trailing_zeros w32 left)) (sym (told.rest (trailing_zeros w32 left) place-above lowest.0) ∙ lowest.1)

    -- it is one of the queues, since after them both have no number
    pub place-within : IsBelow from.lo from.hi → IsBelow to.lo to.hi → length from.lo ≡ length to.lo → trailing_zeros w32 left < length from.lo
    place-within own others alike = elim (cases_lt (trailing_zeros w32 left) (length from.lo)) [
      | inl within ↦ within
      | inr past ↦ absurd (true≢false (sym (same-past own others alike (trailing_zeros w32 left) past) ∙ place-changed))
    ]

    -- its word is the next one
    pub told-next : {next : List ℕ} {further : ℕ} → trailing_zeros w32 left < length from.lo
        → Puts new next end further (spaced_words (change_text (change_to to (trailing_zeros w32 left)) ∷ [])) → further ≤ end + 33
        → AreTold from to old next at further (bit_and left (4294967295 - 1 * 2 ^ trailing_zeros w32 left % 4294967296)) (turn + 1)
    told-next within put short =
        let q = trailing_zeros w32 left in
        let changed : picked from to (q ∷ []) ≡ change_text (change_to to q) ∷ [] = rw place-changed refl in
        let alike : (i : ℕ) → told.next ≤ i → i < q → same from to i ≡ true =
        (λ i above before. bit-zero (same from to i) (sym (told.rest i above (omega arith)) ∙ lowest.2 i before)) in
        let words : codes "move" ∷ picked from to (numbers_from 0 (q + 1)) ≡ (codes "move" ∷ picked from to (numbers_from 0 told.next)) ++ (change_text (change_to to q) ∷ []) =
        move-more (codes "move") from to q
        ∙ ap (λ (ws : List (List ℕ)). (codes "move" ∷ picked from to (numbers_from 0 q)) ++ ws) changed
        ∙ ap (λ (ws : List (List ℕ)). (codes "move" ∷ ws) ++ (change_text (change_to to q) ∷ [])) (picked-skip from to told.next q place-above alike) in
        record {
          next = q + 1;
          turns = (let a = told.turns in let b = place-above in omega arith);
          most = omega arith;
          done = (λ i before. elim (cases_lt i q) [
            | inl less ↦ bit_at_clear_other w32 left q lowest.0 i (omega (arith, lowest.0)) (λ e. omega arith) ∙ lowest.2 i less
            | inr more ↦ (let e : i ≡ q = omega arith in rw e (bit_at_clear_same w32 left q lowest.0))
          ]);
          rest = (λ i above small. bit_at_clear_other w32 left q lowest.0 i small (λ e. omega arith) ∙ told.rest i (let a = place-above in omega arith) small);
          text = then_words _ _ _ told.text put words;
          short = (let a = told.short in let b = place-above in omega arith);
        }
