-- Sums over lists of pasts: their number, products, and Markov's inequality.
use Rattle.std.specs.Prelude.{◌≡◌, ℕ, zero, suc, ◌+◌, ◌*◌, ◌^◌, ◌≤◌, List, [], ◌∷◌, length, Bool, true, false, ◌||◌, refl}
use Rattle.std.proofs.Common.{ap, sym, ◌∙◌, subst, arith}
use Rattle.std.proofs.Math.Nat.{pow-zero, pow-succ', pow-suc, mul-le-mul_right}
use Rattle.psi_law.specs.Counting.{Words, sum_pasts}
use Rattle.psi_law.specs.Wheel.{word_count}
use Rattle.psi_law.proofs.SumsLemmas.{nested-is, one_if, IsSum, sum-same, sum-times, sum_pasts-is, pasts-constant}
use Rattle.psi_law.proofs.PowersLemmas.{pow-times}
use Rattle.psi_law_many.specs.Lists.{sum_lists, count_lists, AtMost}

pub sum_lists-is : (bound n k : ℕ) → IsSum (sum_lists bound n k)
sum_lists-is bound n zero = record { none = refl; more = λ g h. refl; order = λ g h each. each [] }
sum_lists-is bound n (suc k) = nested-is (sum_pasts bound n) (sum_lists bound n k) (λ past pasts. past ∷ pasts) (sum_pasts-is bound n) (sum_lists-is bound n k)

-- how many lists of pasts there are
pub lists-ones : (bound n k : ℕ) → sum_lists bound n k (λ pasts. 1) ≡ (bound ^ n) ^ k
lists-ones bound n zero = sym (pow-zero (bound ^ n))
lists-ones bound n (suc k) =
    pasts-constant bound n (sum_lists bound n k (λ pasts. 1)) ∙ (ap (λ m. m * bound ^ n) (lists-ones bound n k) ∙ sym (pow-suc (bound ^ n) k))

pub lists-power : (bound n k : ℕ) → (bound ^ n) ^ k ≡ bound ^ (n * k)
lists-power bound n k = (let e : k * n ≡ n * k = omega arith in sym (pow-times bound n k) ∙ ap (λ m. bound ^ m) e)

-- only lists of k pasts are summed
pub sum_lists-order : (bound n k : ℕ) (g h : List Words → ℕ) → ((pasts : List Words) → length pasts ≡ k → g pasts ≤ h pasts) → sum_lists bound n k g ≤ sum_lists bound n k h
sum_lists-order bound n zero g h order = order [] refl
sum_lists-order bound n (suc k) g h order =
    (sum_pasts-is bound n).order (λ past. sum_lists bound n k (λ pasts. g (past ∷ pasts))) (λ past. sum_lists bound n k (λ pasts. h (past ∷ pasts)))
    (λ past. sum_lists-order bound n k (λ pasts. g (past ∷ pasts)) (λ pasts. h (past ∷ pasts)) (λ pasts so. order (past ∷ pasts) (ap suc so)))

-- the product of g over the pasts of a list
unfoldable pub product : (Words → ℕ) → List Words → ℕ
product g [] = 1
product g (past ∷ pasts) = g past * product g pasts

-- its sum over all lists is the power of the sum of g (independence)
pub lists-product : (bound n k : ℕ) (g : Words → ℕ) → sum_lists bound n k (product g) ≡ sum_pasts bound n g ^ k
unfolding product
lists-product bound n zero g = sym (pow-zero (sum_pasts bound n g))
lists-product bound n (suc k) g =
    let pasts-is = sum_pasts-is bound n in
    let all = sum_lists bound n k (product g) in
    sum-same (sum_pasts bound n) pasts-is (λ past. sum_lists bound n k (λ pasts. g past * product g pasts)) (λ past. all * g past)
    (λ past. sum-times (sum_lists bound n k) (sum_lists-is bound n k) (g past) (product g) ∙ omega arith)
    ∙ (sum-times (sum_pasts bound n) pasts-is all g
    ∙ (ap (λ m. m * sum_pasts bound n g) (lists-product bound n k g) ∙ (let p = pow-succ' (sum_pasts bound n g) k in omega arith)))

-- a constant where a test passes is at most what it is where the test passes
pub constant-if : (c h : ℕ) (test : Bool) → (test ≡ true → c ≤ h) → c * one_if test ≤ h
constant-if c h true under = (let u = under refl in omega arith)
constant-if c h false under = omega arith

-- where g is at least c on the lists that pass a test, those are at most the sum of g divided by c (Markov's inequality)
pub markov : (bound n k c : ℕ) (test : List Words → Bool) (g : List Words → ℕ) → ((pasts : List Words) → length pasts ≡ k → test pasts ≡ true → c ≤ g pasts)
    → c * count_lists bound n k test ≤ sum_lists bound n k g
markov bound n k c test g under =
    subst (λ m. m ≤ sum_lists bound n k g) (sum-times (sum_lists bound n k) (sum_lists-is bound n k) c (λ pasts. one_if (test pasts)))
    (sum_lists-order bound n k (λ pasts. c * one_if (test pasts)) g (λ pasts so. constant-if c (g pasts) (test pasts) (under pasts so)))

-- where the lists that pass a test pass another, there are no more of them
pub count-order : (bound n k : ℕ) (test other : List Words → Bool) → ((pasts : List Words) → length pasts ≡ k → test pasts ≡ true → other pasts ≡ true)
    → count_lists bound n k test ≤ count_lists bound n k other
count-order bound n k test other passes =
    sum_lists-order bound n k (λ pasts. one_if (test pasts)) (λ pasts. one_if (other pasts))
    (λ pasts so. (let under = constant-if 1 (one_if (other pasts)) (test pasts) (λ passed. (let e = ap one_if (passes pasts so passed) in omega arith)) in omega arith))

-- tests that no list passes, or that few pass
pub at-most-none : (d n k : ℕ) (test : List Words → Bool) → ((pasts : List Words) → length pasts ≡ k → test pasts ≡ false) → AtMost 1 d n k test
at-most-none d n k test fails =
    (let under = sum_lists-order word_count n k (λ pasts. one_if (test pasts)) (λ pasts. 0) (λ pasts so. rw (fails pasts so) (omega arith)) in
    omega (arith, mul-le-mul_right d (rw (sum_lists-is word_count n k).none at under)))

pub at-most-order : (d n k : ℕ) (test other : List Words → Bool) → ((pasts : List Words) → length pasts ≡ k → test pasts ≡ true → other pasts ≡ true)
    → AtMost 1 d n k other → AtMost 1 d n k test
at-most-order d n k test other passes few = (let under = mul-le-mul_right d (count-order word_count n k test other passes) in omega arith)

-- where one of two holds, at most both are counted
pub either : (a b : Bool) → one_if (a || b) ≤ one_if a + one_if b
either true b = omega arith
either false b = omega arith

pub at-most-both : (d n k : ℕ) (a b : List Words → Bool) → AtMost 1 d n k a → AtMost 1 d n k b → AtMost 2 d n k (λ pasts. a pasts || b pasts)
at-most-both d n k a b first last =
    let lists-is = sum_lists-is word_count n k in
    let under = lists-is.order (λ pasts. one_if (a pasts || b pasts)) (λ pasts. one_if (a pasts) + one_if (b pasts)) (λ pasts. either (a pasts) (b pasts)) in
    omega (arith, mul-le-mul_right d (rw (lists-is.more (λ pasts. one_if (a pasts)) (λ pasts. one_if (b pasts))) at under), first, last)
