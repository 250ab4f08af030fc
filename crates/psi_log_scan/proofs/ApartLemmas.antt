-- The first byte in which two numbers of eight bytes differ.
use Rattle.std.specs.Prelude.{◌≡◌, ℕ, zero, suc, ◌/◌, ◌<◌, ◌^◌, List, length, take}
use Rattle.std.specs.Int.{trailing_zeros, to_le_bytes, from_le_bytes}
use Rattle.std.specs.Int.RustNames.{bit_xor}
use Rattle.std.proofs.Common.{get_or, ap, sym, ◌∙◌, arith, w64}
use Rattle.std.proofs.lemmas.List.{get_or-take, length-take-le}
use Rattle.std.proofs.lemmas.Nat.{le_bytes_8}
use Rattle.std.proofs.lemmas.Grind.{same_number_lists}
use Rattle.psi_state.proofs.ApartLemmas.{piece_in, lowest, same-piece}

-- the bytes of a number
byte_here : (bs : List ℕ) (n j : ℕ) → to_le_bytes w64 n ≡ bs → j < 8 → get_or bs j 0 ≡ piece_in 8 n j
byte_here bs n zero is small = (let e = ap (λ (xs : List ℕ). get_or xs 0 0) (sym is) in e ∙ (omega arith))
byte_here bs n (suc zero) is small = ap (λ (xs : List ℕ). get_or xs 1 0) (sym is)
byte_here bs n (suc (suc zero)) is small = ap (λ (xs : List ℕ). get_or xs 2 0) (sym is)
byte_here bs n (suc (suc (suc zero))) is small = ap (λ (xs : List ℕ). get_or xs 3 0) (sym is)
byte_here bs n (suc (suc (suc (suc zero)))) is small = ap (λ (xs : List ℕ). get_or xs 4 0) (sym is)
byte_here bs n (suc (suc (suc (suc (suc zero))))) is small = ap (λ (xs : List ℕ). get_or xs 5 0) (sym is)
byte_here bs n (suc (suc (suc (suc (suc (suc zero)))))) is small = ap (λ (xs : List ℕ). get_or xs 6 0) (sym is)
byte_here bs n (suc (suc (suc (suc (suc (suc (suc zero))))))) is small = ap (λ (xs : List ℕ). get_or xs 7 0) (sym is)
byte_here bs n (suc (suc (suc (suc (suc (suc (suc (suc j)))))))) is small = absurd (omega arith)

-- bytes that are the same before the first one in which they differ
module _ (xs ys : List ℕ) (own others : ℕ) (xs_long : length xs ≡ 8) (ys_long : length ys ≡ 8) (xs_are : (i : ℕ) → get_or xs i 0 < 256) (ys_are : (i : ℕ) → get_or ys i 0 < 256)
    (own_is : own ≡ from_le_bytes w64 xs) (others_is : others ≡ from_le_bytes w64 ys) where
  pub all_same : own ≡ others → xs ≡ ys
  all_same e = sym (le_bytes_8 xs own xs_long xs_are own_is) ∙ ap (to_le_bytes w64) e ∙ le_bytes_8 ys others ys_long ys_are others_is

  pub same_front : (own ≡ others → ⊥) → own < 2 ^ 64 → others < 2 ^ 64
      → take (trailing_zeros w64 (bit_xor own others) / 8) xs ≡ take (trailing_zeros w64 (bit_xor own others) / 8) ys
  same_front apart own_fits others_fits =
      let n = trailing_zeros w64 (bit_xor own others) / 8 in
      let lowest_bit = (lowest own others apart own_fits others_fits).0 in
      let x_count : length (take n xs) ≡ n = length-take-le n xs (omega arith) in
      let y_count : length (take n ys) ≡ n = length-take-le n ys (omega arith) in
      same_number_lists (take n xs) (take n ys) (x_count ∙ sym y_count)
      (λ k within. get_or-take n xs k 0 (omega arith) ∙ byte_here xs own k (le_bytes_8 xs own xs_long xs_are own_is) (omega arith)
      ∙ same-piece own others apart own_fits others_fits 8 k (λ i small. omega arith)
      ∙ sym (get_or-take n ys k 0 (omega arith) ∙ byte_here ys others k (le_bytes_8 ys others ys_long ys_are others_is) (omega arith)))
