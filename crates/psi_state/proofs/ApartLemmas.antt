-- The first place at which two numbers of 64 bits, seen as pieces of some width side by side, differ.
use Rattle.std.specs.Prelude.{◌≡◌, ℕ, ◌+◌, ◌*◌, ◌/◌, ◌%◌, ◌<◌, ◌^◌}
use Rattle.std.specs.Int.{bit_at, trailing_zeros}
use Rattle.std.specs.Int.RustNames.{bit_xor}
use Rattle.std.proofs.Common.{inl, inr, ap, sym, ◌∙◌, arith, w64}
use Rattle.std.proofs.lemmas.Bool.{cases_eq}
use Rattle.std.proofs.Math.Nat.{mod-lt}
use Rattle.std.proofs.lemmas.Nat.{shr-shr, div-add-mod', pow_pos, xor_lt}
use Rattle.std.proofs.lemmas.Nat.Bits.{bit_at_xor, bit_at-zero, bit_at-lt, bit_at_cat_low, same_from_bits, same_from_bits_below, bit_at-trailing_zeros}
use Rattle.psi_state.specs.Hashing.{number_in}

-- the number at a place, counted from the lowest one, of those of w bits that stand side by side
abbrev pub piece_in : ℕ → ℕ → ℕ → ℕ
piece_in w n place = n / 2 ^ (w * place) % 2 ^ w

-- its bits among those of the whole
bit-piece : (w n place i : ℕ) → i < w → bit_at n (w * place + i) ≡ bit_at (piece_in w n place) i
bit-piece w n place i small =
    ap (λ x. x % 2) (sym (shr-shr n (w * place) i))
    ∙ (ap (λ x. bit_at x i) (sym (div-add-mod' (n / 2 ^ (w * place)) (2 ^ w)))
    ∙ bit_at_cat_low (n / 2 ^ (w * place) / 2 ^ w) w (piece_in w n place) i small)

module _ (own others : ℕ) (apart : own ≡ others → ⊥) where
  same-bit : (i : ℕ) → bit_at (bit_xor own others) i ≡ 0 → bit_at own i ≡ bit_at others i
  same-bit i none = omega (arith, bit_at_xor own others i, bit_at-lt own i, bit_at-lt others i)

  -- they differ in a bit
  pub xor-some : 0 < bit_xor own others
  xor-some =
      elim (cases_eq (bit_xor own others) 0) [
        | inl e ↦ absurd (apart (same_from_bits own others (λ i. same-bit i (ap (λ d. bit_at d i) e ∙ bit_at-zero i))))
        | inr ne ↦ omega arith
      ]

  module _ (own_fits : own < 2 ^ 64) (others_fits : others < 2 ^ 64) where
    -- the lowest bit in which they differ
    pub lowest : (trailing_zeros w64 (bit_xor own others) < 64) × (bit_at (bit_xor own others) (trailing_zeros w64 (bit_xor own others)) ≡ 1)
        × ((i : ℕ) → i < trailing_zeros w64 (bit_xor own others) → bit_at (bit_xor own others) i ≡ 0)
    lowest = bit_at-trailing_zeros w64 (bit_xor own others) xor-some (xor_lt 64 own others own_fits others_fits)

    -- a piece before it is the same
    pub same-piece : (w k : ℕ) → ((i : ℕ) → i < w → w * k + i < trailing_zeros w64 (bit_xor own others)) → piece_in w own k ≡ piece_in w others k
    same-piece w k before =
        same_from_bits_below w (piece_in w own k) (piece_in w others k) (mod-lt (own / 2 ^ (w * k)) (pow_pos w)) (mod-lt (others / 2 ^ (w * k)) (pow_pos w))
        (λ i within. sym (bit-piece w own k i within) ∙ (same-bit (w * k + i) (lowest.2 (w * k + i) (before i within)) ∙ bit-piece w others k i within))

    pub place-few : trailing_zeros w64 (bit_xor own others) / 16 < 4
    place-few = (let l = lowest.0 in omega arith)

    -- so are the numbers of 16 bits before it
    pub same-before : (k : ℕ) → k < trailing_zeros w64 (bit_xor own others) / 16 → number_in own k ≡ number_in others k
    same-before k before = same-piece 16 k (λ i within. omega arith)

    -- and there they differ
    pub apart-there : number_in own (trailing_zeros w64 (bit_xor own others) / 16) ≡ number_in others (trailing_zeros w64 (bit_xor own others) / 16) → ⊥
    apart-there same =
        let lowest_bit = trailing_zeros w64 (bit_xor own others) in
        let place = lowest_bit / 16 in
        let at : 16 * place + lowest_bit % 16 ≡ lowest_bit = omega arith in
        let one = lowest.1 in
        let own_bit : bit_at own lowest_bit ≡ bit_at (number_in own place) (lowest_bit % 16) =
        ap (λ i. bit_at own i) (sym at) ∙ bit-piece 16 own place (lowest_bit % 16) (omega arith) in
        let others_bit : bit_at others lowest_bit ≡ bit_at (number_in others place) (lowest_bit % 16) =
        ap (λ i. bit_at others i) (sym at) ∙ bit-piece 16 others place (lowest_bit % 16) (omega arith) in
        let equal : bit_at own lowest_bit ≡ bit_at others lowest_bit = own_bit ∙ (ap (λ v. bit_at v (lowest_bit % 16)) same ∙ sym others_bit) in
        omega (arith, bit_at_xor own others lowest_bit, bit_at-lt own lowest_bit)
