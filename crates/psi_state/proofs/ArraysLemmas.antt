-- Arrays of a fixed length whose front holds a list, with zeros after it.
use Rattle.std.specs.Prelude.{◌≡◌, ℕ, zero, suc, ◌+◌, ◌-◌, ◌*◌, ◌<◌, ◌≤◌, List, length, replicate, take, drop, slice_index, slice_set, refl}
use Rattle.std.proofs.Common.{inl, inr, ap, ◌∙◌, sym, arith}
use Rattle.std.proofs.lemmas.Bool.{cases_lt}
use Rattle.std.proofs.lemmas.List.{drop-set-lt, drop-drop, drop-replicate, get_or-drop, get_or-take, get_or_past, length-set, length-take-le}
use Rattle.psi_state.specs.Hashing.{quad}
use Rattle.psi_state.proofs.BoxesLemmas.{set-each}

-- a list of zeros has no other number, and 0 stands for what is past its end
pub slice_index-zeros : (n i : ℕ) → slice_index (replicate n 0) i ≡ 0
slice_index-zeros zero i = refl
slice_index-zeros (suc n) zero = refl
slice_index-zeros (suc n) (suc i) = slice_index-zeros n i

-- one place more of a fixed array is taken, and the filler stands after it
pub array-pushed : {A : Type 0} (most : ℕ) (xs : List A) (n : ℕ) (shown : List A) (v filler : A) → n ≤ most → length xs ≡ most
    → drop n xs ≡ replicate (most - n) filler → take n xs ≡ shown → length shown < most
    → (n + 1 ≤ most) × (length (slice_set xs n v) ≡ most) × (drop (n + 1) (slice_set xs n v) ≡ replicate (most - (n + 1)) filler)
array-pushed {A} most xs n shown v filler few full rest is fits =
    let count : length shown ≡ n = ap (length {A = A}) (sym is) ∙ length-take-le n xs (omega arith) in
    let left : most - n - 1 ≡ most - (n + 1) = omega arith in (
      omega arith,
      length-set xs n v ∙ full,
      drop-set-lt (n + 1) xs n v (omega arith)
          ∙ (sym (drop-drop 1 n xs)
          ∙ (ap (λ (ys : List A). drop 1 ys) rest
          ∙ (drop-replicate 1 (most - n) filler
          ∙ ap (λ k. replicate k filler) left))),
    )

-- a number that fits is put among numbers that fit
pub slice_set-small : (xs : List ℕ) (n v bound : ℕ) → n < length xs → v < bound → ((i : ℕ) → slice_index xs i < bound)
    → (i : ℕ) → slice_index (slice_set xs n v) i < bound
slice_set-small xs n v bound within fits each = set-each (λ _ m. m < bound) xs n v (λ _. fits) each

-- each place of the array holds the list's number, and 0 past the list's end
pub slice_index-padded : (xs : List ℕ) (n i : ℕ) → n ≤ 32 → length xs ≡ 32 → drop n xs ≡ replicate (32 - n) 0 → slice_index xs i ≡ slice_index (take n xs) i
slice_index-padded xs n i few full rest =
    elim (cases_lt i n) [
      | inl before ↦ sym (get_or-take n xs i 0 before)
      | inr behind ↦ (let at : n + (i - n) ≡ i = omega arith in
          let count : length (take n xs) ≡ n = length-take-le n xs (omega arith) in
          let past : slice_index (take n xs) i ≡ 0 = get_or_past (take n xs) i 0 (omega arith) in
          let zero_there : slice_index (drop n xs) (i - n) ≡ 0 = ap (λ (ys : List ℕ). slice_index ys (i - n)) rest ∙ slice_index-zeros (32 - n) (i - n) in
          ap (λ k. slice_index xs k) (sym at) ∙ (sym (get_or-drop n xs (i - n) 0) ∙ (zero_there ∙ sym past)))
    ]

-- the numbers of four places side by side are those of the list
pub quad-padded : (xs : List ℕ) (n i : ℕ) → n ≤ 32 → length xs ≡ 32 → drop n xs ≡ replicate (32 - n) 0 → quad xs i ≡ quad (take n xs) i
quad-padded xs n i few full rest =
    let a = slice_index-padded xs n (4 * i) few full rest in
    let b = slice_index-padded xs n (4 * i + 1) few full rest in
    let c = slice_index-padded xs n (4 * i + 2) few full rest in
    let d = slice_index-padded xs n (4 * i + 3) few full rest in
    omega (arith, a, b, c, d)
