-- Pasts that are joined of newer and older words, and counts of them.
use Rattle.std.specs.Prelude.{◌≡◌, ℕ, zero, suc, ◌+◌, ◌-◌, ◌*◌, ◌<◌, ◌≤◌, List, Bool, refl}
use Rattle.std.proofs.Common.{ap, sym, ◌∙◌, arith}
use Rattle.std.proofs.lemmas.Grind.{common_steps}
use Rattle.psi_rate.specs.Composition.{picked, function_at}
use Rattle.psi_law.specs.Counting.{Words, sum_below, after, sum_pasts, count_pasts}
use Rattle.psi_law.proofs.SumsLemmas.{one_if, sum-same, sum-times, sum_below-is, sum_pasts-is}

-- the n newest words of one past, and before them those of another
unfoldable pub joined : ℕ → Words → Words → Words
joined zero p q = q
joined (suc n) p q = after (p 0) (joined n (λ k. p (suc k)) q)

-- the lists of n + k words are those of n and of k words, one past the other
pub sum_pasts-joined : (bound n k : ℕ) (g : Words → ℕ) → sum_pasts bound (n + k) g ≡ sum_pasts bound n (λ p. sum_pasts bound k (λ q. g (joined n p q)))
unfolding joined
sum_pasts-joined bound zero k g = (let e : zero + k ≡ k = omega arith in ap (λ m. sum_pasts bound m g) e)
sum_pasts-joined bound (suc n) k g =
    let e : suc n + k ≡ suc (n + k) = omega arith in
    rw e (sum-same (sum_below bound) (sum_below-is bound) (λ word. sum_pasts bound (n + k) (λ past. g (after word past)))
    (λ word. sum_pasts bound n (λ p. sum_pasts bound k (λ q. g (after word (joined n p q)))))
    (λ word. sum_pasts-joined bound n k (λ past. g (after word past))))

-- where a joined past has a property only if its newer and its older words have two others, at most the product of their counts has it
pub count_pasts-joined : (bound n k : ℕ) (both newer older : Words → Bool)
    → ((p q : Words) → one_if (both (joined n p q)) ≤ one_if (newer p) * one_if (older q))
    → count_pasts bound (n + k) both ≤ count_pasts bound n newer * count_pasts bound k older
count_pasts-joined bound n k both newer older each =
    let new = sum_pasts-is bound n in
    let old = sum_pasts-is bound k in
    let one : Words → ℕ = λ p. one_if (newer p) in
    let other : Words → ℕ = λ q. one_if (older q) in
    let c = count_pasts bound k older in
    let order = new.order (λ p. sum_pasts bound k (λ q. one_if (both (joined n p q)))) (λ p. c * one p)
    (λ p. (let inner = old.order (λ q. one_if (both (joined n p q))) (λ q. one p * other q) (each p) in
    let out = sum-times (sum_pasts bound k) old (one p) other in
    omega arith)) in
    omega (arith, sum_pasts-joined bound n k (λ past. one_if (both past)), sum-times (sum_pasts bound n) new c one)

-- the words of a joined past
pub joined-newer : (n : ℕ) (p q : Words) (k : ℕ) → k < n → joined n p q k ≡ p k
unfolding joined
joined-newer zero p q k small = absurd (omega arith)
joined-newer (suc n) p q zero small = refl
joined-newer (suc n) p q (suc k) small = joined-newer n (λ j. p (suc j)) q k (omega arith)

pub joined-older : (n : ℕ) (p q : Words) (k : ℕ) → joined n p q (n + k) ≡ q k
unfolding joined
joined-older zero p q k = (let e : zero + k ≡ k = omega arith in ap q e)
joined-older (suc n) p q k = grind (arith, common_steps, (joined-older n (λ j. p (suc j)) q k))

-- and its functions
pub function_at-older : (functions : List (List ℕ → List ℕ)) (rates : List ℕ) (n : ℕ) (p q : Words) (k : ℕ)
    → function_at functions rates (joined n p q) (n + suc k) ≡ function_at functions rates q (suc k)
function_at-older functions rates n p q k =
    let e : (n + suc k) - 1 ≡ n + k = omega arith in
    let d : suc k - 1 ≡ k = omega arith in
    ap (λ i. picked functions rates (joined n p q i)) e
    ∙ (ap (λ word. picked functions rates word) (joined-older n p q k) ∙ ap (λ i. picked functions rates (q i)) (sym d))
