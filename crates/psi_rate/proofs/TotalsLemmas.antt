-- Running totals are at most the whole, and the event of a number is the place of the first one above it.
use Rattle.std.specs.Prelude.{◌≡◌, ℕ, zero, suc, ◌+◌, ◌<◌, ◌≤◌, List, [], ◌∷◌, ◌++◌, length, take, slice_index, refl}
use Rattle.std.proofs.Common.{ap, arith}
use Rattle.psi_rate.specs.Rates.{total, HasNumber}
use Rattle.std.proofs.lemmas.List.{take_all}
use Rattle.std.proofs.lemmas.Grind.{common_steps}
use Rattle.psi_rate.specs.Inner.TotalsKept.{totals_from}
use Rattle.psi_rate.specs.Inner.EventTableKept.{IsFirstAbove}

pub total-more : (xs : List ℕ) (x : ℕ) → total (xs ++ x ∷ []) ≡ total xs + x
total-more [] x = omega arith
total-more (y ∷ xs) x = (let rest = total-more xs x in omega arith)

pub totals_from-more : (sum : ℕ) (xs : List ℕ) (x : ℕ) → totals_from sum (xs ++ x ∷ []) ≡ totals_from sum xs ++ (sum + total xs + x) ∷ []
totals_from-more sum [] x = (let e : sum + x ≡ sum + 0 + x = omega arith in ap (λ n. n ∷ []) e)
totals_from-more sum (y ∷ xs) x = grind (arith, common_steps, (totals_from-more (sum + y) xs x))

pub length-totals_from : (sum : ℕ) (xs : List ℕ) → length (totals_from sum xs) ≡ length xs
length-totals_from sum [] = refl
length-totals_from sum (x ∷ xs) = ap suc (length-totals_from (sum + x) xs)

pub slice_index-totals_from : (sum : ℕ) (xs : List ℕ) (i : ℕ) → i < length xs → slice_index (totals_from sum xs) i ≡ sum + total (take (suc i) xs)
slice_index-totals_from sum [] i small = absurd (omega arith)
slice_index-totals_from sum (x ∷ xs) zero small = omega arith
slice_index-totals_from sum (x ∷ xs) (suc i) small = grind (arith, common_steps, (slice_index-totals_from (sum + x) xs i (omega arith)))

pub total-take_order : (xs : List ℕ) (i j : ℕ) → i ≤ j → total (take i xs) ≤ total (take j xs)
total-take_order [] zero j small = omega arith
total-take_order [] (suc i) zero small = omega arith
total-take_order [] (suc i) (suc j) small = omega arith
total-take_order (x ∷ xs) zero j small = omega arith
total-take_order (x ∷ xs) (suc i) zero small = absurd (omega arith)
total-take_order (x ∷ xs) (suc i) (suc j) small = (let rest = total-take_order xs i j (omega arith) in omega arith)

-- a running total is at most the whole
pub totals_from-within : (xs : List ℕ) (i : ℕ) → i < length (totals_from 0 xs) → slice_index (totals_from 0 xs) i ≤ total xs
totals_from-within xs i small =
    let count = length-totals_from 0 xs in
    let within : i < length xs = omega arith in
    let at = slice_index-totals_from 0 xs i within in
    let rise = total-take_order xs (suc i) (length xs) within in
    let all : total (take (length xs) xs) ≡ total xs = ap (λ (ys : List ℕ). total ys) (take_all (length xs) xs (omega arith)) in
    omega arith

-- the event of a number is the place of the first running total above it
pub has_number-first : (rates : List ℕ) (r e : ℕ) → IsFirstAbove (totals_from 0 rates) r e → HasNumber rates r e
has_number-first rates r e first = record {
  place = place;
  before = before e place first.below;
  own = λ small. (let at = slice_index-totals_from 0 rates e small in let more = first.above (omega (arith, count)) in omega arith);
}
  where
    count : length (totals_from 0 rates) ≡ length rates
    count = length-totals_from 0 rates

    place : e ≤ length rates
    place = (let p = first.place in omega (arith, count))

    before : (n : ℕ) → n ≤ length rates → ((k : ℕ) → k < n → slice_index (totals_from 0 rates) k ≤ r) → total (take n rates) ≤ r
    before zero fits low = omega arith
    before (suc n) fits low = (let at = slice_index-totals_from 0 rates n (omega arith) in let less = low n (omega arith) in omega arith)
