-- The ends of a stretch of values that rise.
use Rattle.std.proofs.Common.{◌≡◌, ℕ, zero, suc, ◌+◌, ◌-◌, ◌<◌, ◌≤◌, List, [], ◌∷◌, length, slice_index, slice_range, inl, inr, ap, refl, arith}
use Rattle.std.proofs.lemmas.Bool.{cases_lt}
use Rattle.psi_index.specs.Inner.BoundsKept.{ArePeaks, AreTroughs}
use Rattle.psi_index.specs.Extremes.{IsLeast, IsRising, greatest_of}
use Rattle.psi_index.proofs.JoiningLemmas.{length-slice_range, slice_index-slice_range}

-- no value is below an earlier one
pub rising-order : (values : List ℕ) (i k : ℕ) → IsRising values → i ≤ k → k < length values → slice_index values i ≤ slice_index values k
rising-order values i zero rising order small =
    let e : i ≡ 0 = omega arith in let same = ap (λ j. slice_index values j) e in omega arith
rising-order values i (suc k) rising order small =
    elim (cases_lt i (suc k)) [
      | inl less ↦ (let before = rising-order values i k rising (omega arith) (omega arith) in
          let next = rising.each k (omega arith) in
          let same = ap (λ j. slice_index values j) (let e : k + 1 ≡ suc k = omega arith in e) in omega arith)
      | inr more ↦ (let e : i ≡ suc k = omega arith in let same = ap (λ j. slice_index values j) e in omega arith)
    ]

-- the first value of a stretch is its least
pub rising-least : (values : List ℕ) (first past : ℕ) → IsRising values → first < past → past ≤ length values → IsLeast values first past (slice_index values first)
rising-least values first past rising some within = record {
  below = λ k low less. rising-order values first k rising low (omega arith);
  reached = (first, omega arith, some, refl);
}

-- what is at least each number is at least the greatest of them
greatest_of-below : (xs : List ℕ) (m : ℕ) → 0 < length xs → ((k : ℕ) → k < length xs → slice_index xs k ≤ m) → greatest_of xs ≤ m
greatest_of-below [] m some above = absurd (omega arith)
greatest_of-below (x ∷ []) m some above = above 0 (omega arith)
greatest_of-below (x ∷ y ∷ ys) m some above =
    let first = above 0 (omega arith) in let rest = greatest_of-below (y ∷ ys) m (omega arith) (λ k small. above (suc k) (omega arith)) in omega arith

-- which is at least each of them
greatest_of-above : (xs : List ℕ) (k : ℕ) → k < length xs → slice_index xs k ≤ greatest_of xs
greatest_of-above [] k small = absurd (omega arith)
greatest_of-above (x ∷ []) zero small = omega arith
greatest_of-above (x ∷ []) (suc k) small = absurd (omega arith)
greatest_of-above (x ∷ y ∷ ys) zero small = omega arith
greatest_of-above (x ∷ y ∷ ys) (suc k) small = let rest = greatest_of-above (y ∷ ys) k (omega arith) in omega arith

-- the last value of a stretch is its greatest
pub rising-greatest : (values : List ℕ) (first last : ℕ) → IsRising values → first ≤ last → last < length values
    → slice_index values last ≡ greatest_of (slice_range values first (last + 1))
rising-greatest values first last rising order within =
    let xs : List ℕ = slice_range values first (last + 1) in
    let count : length xs ≡ last + 1 - first = length-slice_range values first (last + 1) (omega arith) (omega arith) in
    let here = slice_index-slice_range values first (last + 1) (last - first) (omega arith) in
    let same = ap (λ j. slice_index values j) (let e : first + (last - first) ≡ last = omega arith in e) in
    let above = greatest_of-above xs (last - first) (omega arith) in
    let below = greatest_of-below xs (slice_index values last) (omega arith) (λ k small.
    (let at = slice_index-slice_range values first (last + 1) k (omega arith) in
    let most = rising-order values (first + k) last rising (omega arith) within in omega arith)) in
    omega arith

-- values that rise bound one another
pub rising-peaks : (values : List ℕ) → IsRising values → ArePeaks values values
rising-peaks values rising = record { count = refl; above = λ i k order small. rising-order values k i rising order small }

pub rising-troughs : (values : List ℕ) → IsRising values → AreTroughs values values
rising-troughs values rising = record { count = refl; below = λ i k order small. rising-order values i k rising order small }
