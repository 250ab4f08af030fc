-- What values in two parts come to: their sum, the least and the greatest.
use Rattle.std.specs.Prelude.{◌≡◌, ℕ, suc, ◌+◌, ◌≤◌, ℤ, pos, ◌+ℤ◌, List, [], ◌∷◌, ◌++◌, map, length, refl}
use Rattle.std.specs.Int.{int_min, int_max}
use Rattle.std.specs.Int.RustNames.{unsigned_abs}
use Rattle.std.proofs.Math.Dec.{eqb-suc-zero}
use Rattle.std.proofs.Common.{sym, ◌∙◌, ap, arith}
use Rattle.std.proofs.lemmas.Bool.{ne_eqb}
use Rattle.std.proofs.lemmas.Int.{ints, clamps}
use Rattle.std.proofs.lemmas.List.{append-nil, map-append, length-map}
use Rattle.psi_reward.specs.Ranges.{least, greatest}
use Rattle.psi_report.specs.declared.summary.Summary.{Summary}
use Rattle.psi_report.specs.Quantities.{Quantity, sum_of}
use Rattle.psi_report.specs.Totals.{summary_of, summaries_of}
use Rattle.psi_report.specs.Joined.{paired, joined_summary}

pub unsigned_abs-add : (a b : ℤ) → unsigned_abs (a +ℤ b) ≤ unsigned_abs a + unsigned_abs b
unsigned_abs-add a b = omega (arith, ints)

pub int_add-assoc : (a b c : ℤ) → (a +ℤ b) +ℤ c ≡ a +ℤ (b +ℤ c)
int_add-assoc a b c = omega (arith, ints)

pub int_zero-add : (a : ℤ) → pos 0 +ℤ a ≡ a
int_zero-add a = omega (arith, ints)

pub int_add-zero : (a : ℤ) → a +ℤ pos 0 ≡ a
int_add-zero a = omega (arith, ints)

int_min-assoc : (a b c : ℤ) → int_min (int_min a b) c ≡ int_min a (int_min b c)
int_min-assoc a b c = omega (arith, ints, clamps)

int_max-assoc : (a b c : ℤ) → int_max (int_max a b) c ≡ int_max a (int_max b c)
int_max-assoc a b c = omega (arith, ints, clamps)

pub sum_of-append : (xs ys : List ℤ) → sum_of (xs ++ ys) ≡ sum_of xs +ℤ sum_of ys
unfolding sum_of
sum_of-append [] ys = sym (int_zero-add (sum_of ys))
sum_of-append (x ∷ xs) ys = ap (λ z. x +ℤ z) (sum_of-append xs ys) ∙ sym (int_add-assoc x (sum_of xs) (sum_of ys))

pub least-append : (x : ℤ) (xs : List ℤ) (y : ℤ) (ys : List ℤ) → least ((x ∷ xs) ++ (y ∷ ys)) ≡ int_min (least (x ∷ xs)) (least (y ∷ ys))
least-append x [] y ys = refl
least-append x (w ∷ ws) y ys = ap (λ z. int_min x z) (least-append w ws y ys) ∙ sym (int_min-assoc x (least (w ∷ ws)) (least (y ∷ ys)))

pub greatest-append : (x : ℤ) (xs : List ℤ) (y : ℤ) (ys : List ℤ) → greatest ((x ∷ xs) ++ (y ∷ ys)) ≡ int_max (greatest (x ∷ xs)) (greatest (y ∷ ys))
greatest-append x [] y ys = refl
greatest-append x (w ∷ ws) y ys = ap (λ z. int_max x z) (greatest-append w ws y ys) ∙ sym (int_max-assoc x (greatest (w ∷ ws)) (greatest (y ∷ ys)))

-- where there are values in both parts, sums are added, and the lesser and the greater are taken
pub joined_both : (m n : ℕ) (a b : Summary) → (m ≡ 0 → ⊥) → (n ≡ 0 → ⊥)
    → record { sum = a.sum +ℤ b.sum; least = int_min a.least b.least; greatest = int_max a.greatest b.greatest } ≡ joined_summary m n a b
joined_both m n a b some more = rw (ne_eqb m 0 some, ne_eqb n 0 more) refl

-- the summary of values in two parts
pub summary_of-append : (xs ys : List ℤ) → summary_of (xs ++ ys) ≡ joined_summary (length xs) (length ys) (summary_of xs) (summary_of ys)
summary_of-append [] ys = refl
summary_of-append (x ∷ xs) [] = rw (eqb-suc-zero (length xs)) (ap summary_of (append-nil (x ∷ xs)))
summary_of-append (x ∷ xs) (y ∷ ys) =
    let sums : sum_of ((x ∷ xs) ++ (y ∷ ys)) ≡ sum_of (x ∷ xs) +ℤ sum_of (y ∷ ys) = sum_of-append (x ∷ xs) (y ∷ ys) in
    let low = least-append x xs y ys in
    let high = greatest-append x xs y ys in
    let both = joined_both (suc (length xs)) (suc (length ys)) (summary_of (x ∷ xs)) (summary_of (y ∷ ys)) (λ e. absurd (omega arith)) (λ e. absurd (omega arith)) in
    cc

-- the summary of one value
pub summary_of_one : (z : ℤ) → record { sum = z; least = z; greatest = z } ≡ summary_of (z ∷ [])
unfolding sum_of
summary_of_one z = let e : z +ℤ pos 0 ≡ z = int_add-zero z in cc

-- the summaries of quantities over states in two parts
pub summaries_of-append : (xs ys : List (List ℕ)) (qs : List Quantity)
    → summaries_of (xs ++ ys) qs ≡ paired (joined_summary (length xs) (length ys)) (summaries_of xs qs) (summaries_of ys qs)
summaries_of-append xs ys [] = refl
summaries_of-append xs ys (q ∷ qs) =
    let one : summary_of (map q.value (xs ++ ys)) ≡ joined_summary (length xs) (length ys) (summary_of (map q.value xs)) (summary_of (map q.value ys)) =
    ap summary_of (map-append q.value xs ys) ∙ summary_of-append (map q.value xs) (map q.value ys)
    ∙ ap (λ n. joined_summary n (length (map q.value ys)) (summary_of (map q.value xs)) (summary_of (map q.value ys))) (length-map xs q.value)
    ∙ ap (λ n. joined_summary (length xs) n (summary_of (map q.value xs)) (summary_of (map q.value ys))) (length-map ys q.value) in
    let rest = summaries_of-append xs ys qs in
    cc
