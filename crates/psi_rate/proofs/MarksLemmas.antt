-- The marks rise, so each place has one number of marks up to it, and the counts at marks are kept.
use Rattle.std.specs.Prelude.{◌≡◌, ℕ, zero, suc, ◌-◌, ◌<◌, ◌≤◌, List, [], ◌∷◌, ◌++◌, length, slice_index}
use Rattle.std.proofs.Common.{rules, inl, inr, ap, ap₂, sym, ◌∙◌, arith}
use Rattle.std.proofs.lemmas.Bool.{cases_lt}
use Rattle.std.proofs.lemmas.List.{length-append}
use Rattle.std.proofs.Math.ListN.{get_or-append}
use Rattle.std.proofs.Math.Seq.{get_or-append_seam}
use Rattle.psi_rate.specs.Numbers.{numbers_below}
use Rattle.psi_rate.specs.Keeping.{mark}

pub mark-rises : (n : ℕ) → mark n < mark (suc n)
mark-rises zero = omega arith
mark-rises (suc zero) = omega arith
mark-rises (suc (suc zero)) = omega arith
mark-rises (suc (suc (suc zero))) = omega arith
mark-rises (suc (suc (suc (suc zero)))) = omega arith
mark-rises (suc (suc (suc (suc (suc n))))) = omega arith

pub mark-order : (i j : ℕ) → i ≤ j → mark i ≤ mark j
mark-order i zero order = (let e : i ≡ 0 = omega arith in let same : mark i ≡ mark 0 = ap (λ n. mark n) e in omega arith)
mark-order i (suc j) order = search rules

-- a mark up to a place has a number below that of the first one above it
pub mark-below : (i n place : ℕ) → mark i ≤ place → place < mark n → i < n
mark-below i n place up above = search rules

pub marks-only : (m n place : ℕ) → 1 ≤ m → 1 ≤ n → mark (m - 1) ≤ place → place < mark m → mark (n - 1) ≤ place → place < mark n → m ≡ n
marks-only m n place some any last next own other = search rules

-- the count of the next mark is counted too
pub counted-more : (rates : List ℕ) (words : ℕ → ℕ) (counts more : List ℕ) (number count : ℕ) → length counts ≡ number → more ≡ counts ++ count ∷ []
    → count ≡ length (numbers_below rates words (mark number))
    → ((i : ℕ) → i < length counts → slice_index counts i ≡ length (numbers_below rates words (mark i)))
    → (i : ℕ) → i < length more → slice_index more i ≡ length (numbers_below rates words (mark i))
counted-more rates words counts more number count long is own counted i small =
    let sum = ap (λ (xs : List ℕ). length xs) is ∙ length-append counts (count ∷ []) in
    elim (cases_lt i (length counts)) [
      | inl less ↦ ap (λ (xs : List ℕ). slice_index xs i) is ∙ get_or-append counts (count ∷ []) 0 i less ∙ counted i less
      | inr past ↦ (let e : i ≡ length counts = omega (arith, sum, small) in
          ap₂ (λ (xs : List ℕ) k. slice_index xs k) is e ∙ get_or-append_seam counts count [] 0 ∙ own ∙ ap (λ n. length (numbers_below rates words (mark n))) (sym long ∙ sym e))
    ]
