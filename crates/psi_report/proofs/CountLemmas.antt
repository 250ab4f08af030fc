-- How often powers of two stand in a list, with one more of them.
use Rattle.std.specs.Prelude.{◌≡◌, ℕ, zero, suc, ◌+◌, ◌^◌, ◌<◌, ◌≤◌, List, [], ◌∷◌, ◌++◌, map, length, slice_index, slice_set, refl}
use Rattle.std.specs.Int.{w32, trailing_zeros, bit_at}
use Rattle.std.proofs.Common.{◌∙◌, ap, inl, inr, arith}
use Rattle.std.proofs.Math.Pow.{pow-lt}
use Rattle.std.proofs.lemmas.Bool.{ne_eqb, eq-eqb, cases_eq, cases_order}
use Rattle.std.proofs.lemmas.List.Sums.{sum_by-append, count_by-le-length}
use Rattle.std.proofs.lemmas.Nat.{pow_pos}
use Rattle.std.proofs.lemmas.Nat.Bits.{bit_at-trailing_zeros, bit_at-pow_other}
use Rattle.psi_state.specs.State.{numbers_from}
use Rattle.psi_report.specs.Report.{times}
use Rattle.psi_report.specs.Joined.{paired}
use Rattle.psi_report.proofs.PairLemmas.{paired_none}

-- how often numbers stand in two lists
pub horizons-append : (xs ys ts : List ℕ)
    → map (λ t. times t (xs ++ ys)) ts ≡ paired (λ m n. m + n) (map (λ t. times t xs) ts) (map (λ t. times t ys) ts)
horizons-append xs ys [] = refl
horizons-append xs ys (t ∷ ts) =
    let one : times t (xs ++ ys) ≡ times t xs + times t ys = sum_by-append _ xs ys in
    let rest = horizons-append xs ys ts in
    cc

times_same : (t : ℕ) → times t (t ∷ []) ≡ 1
times_same t = rw (eq-eqb t t refl) refl

times_other : (t h : ℕ) → (h ≡ t → ⊥) → times t (h ∷ []) ≡ 0
times_other t h other = rw (ne_eqb h t other) refl

-- the powers that are asked for
abbrev counts : ℕ → ℕ → ℕ → List ℕ
counts exponent first n = map (λ t. times t (2 ^ exponent ∷ [])) (map (λ k. 2 ^ k) (numbers_from first n))

-- higher powers don't count
counts_higher : (exponent first n : ℕ) (xs : List ℕ) → exponent < first → paired (λ a b. a + b) xs (counts exponent first n) ≡ xs
counts_higher exponent first zero xs above = paired_none (λ a b. a + b) xs
counts_higher exponent first (suc n) [] above = refl
counts_higher exponent first (suc n) (x ∷ xs) above =
    let less : 2 ^ exponent < 2 ^ first = pow-lt above in
    let none : times (2 ^ first) (2 ^ exponent ∷ []) ≡ 0 = times_other (2 ^ first) (2 ^ exponent) (λ e. omega arith) in
    let same : x + times (2 ^ first) (2 ^ exponent ∷ []) ≡ x = rw none (omega arith) in
    let rest = counts_higher exponent (suc first) n xs (omega arith) in
    cc

-- one power counts at its own place
counts_one : (first n place : ℕ) (xs : List ℕ) → length xs ≡ n → place < n
    → paired (λ a b. a + b) xs (counts (first + place) first n) ≡ slice_set xs place (slice_index xs place + 1)
counts_one first zero place xs count small = absurd (omega arith)
counts_one first (suc n) place [] count small = absurd (omega arith)
counts_one first (suc n) zero (x ∷ xs) count small =
    let here : first + 0 ≡ first = omega arith in
    let one : times (2 ^ first) (2 ^ (first + 0) ∷ []) ≡ 1 = ap (λ k. times (2 ^ first) (2 ^ k ∷ [])) here ∙ times_same (2 ^ first) in
    let rest : paired (λ a b. a + b) xs (counts (first + 0) (suc first) n) ≡ xs = counts_higher (first + 0) (suc first) n xs (omega arith) in
    cc
counts_one first (suc n) (suc place) (x ∷ xs) count small =
    let less : 2 ^ first < 2 ^ (first + suc place) = pow-lt (omega arith) in
    let none : times (2 ^ first) (2 ^ (first + suc place) ∷ []) ≡ 0 = times_other (2 ^ first) (2 ^ (first + suc place)) (λ e. omega arith) in
    let same : x + times (2 ^ first) (2 ^ (first + suc place) ∷ []) ≡ x = rw none (omega arith) in
    let next : first + suc place ≡ suc first + place = omega arith in
    let rest : paired (λ a b. a + b) xs (counts (first + suc place) (suc first) n) ≡ slice_set xs place (slice_index xs place + 1) =
    rw next (counts_one (suc first) n place xs (omega arith) (omega arith)) in
    cc

-- one power more in a list of counts for 2^0, 2^1, ..
pub counts_more : (n exponent : ℕ) (xs : List ℕ) → length xs ≡ n → exponent < n
    → paired (λ a b. a + b) xs (map (λ t. times t (2 ^ exponent ∷ [])) (map (λ k. 2 ^ k) (numbers_from 0 n))) ≡ slice_set xs exponent (slice_index xs exponent + 1)
counts_more n exponent xs count small =
    let e : 0 + exponent ≡ exponent = omega arith in
    let more : paired (λ a b. a + b) xs (counts (0 + exponent) 0 n) ≡ slice_set xs exponent (slice_index xs exponent + 1) = counts_one 0 n exponent xs count small in
    rw e at more

-- a number stands at most as often in a list as the list is long
pub counts_few : (ts hs : List ℕ) (i : ℕ) → slice_index (map (λ t. times t hs) ts) i ≤ length hs
counts_few [] hs i = omega arith
counts_few (t ∷ ts) hs zero = count_by-le-length _ hs
counts_few (t ∷ ts) hs (suc i) = counts_few ts hs i

-- the exponent of a power of two below 2^32
pub trailing_zeros-pow : (k : ℕ) → k < 32 → trailing_zeros w32 (2 ^ k) ≡ k
trailing_zeros-pow k small =
    let less : 2 ^ k < 2 ^ 32 = pow-lt small in
    let some : 0 < 2 ^ k = pow_pos k in
    let found = bit_at-trailing_zeros w32 (2 ^ k) some less in
    elim (cases_eq (trailing_zeros w32 (2 ^ k)) k) [
      | inl same ↦ same
      | inr other ↦ absurd (let none : bit_at (2 ^ k) (trailing_zeros w32 (2 ^ k)) ≡ 0 = bit_at-pow_other k (trailing_zeros w32 (2 ^ k)) other in let one = found.1 in omega arith)
    ]

-- the exponent of a power of two of 32 bits
pub exponent_is : (horizon exponent : ℕ) → horizon < 2 ^ 32 → horizon ≡ 2 ^ exponent → trailing_zeros w32 horizon ≡ exponent
exponent_is horizon exponent fits is =
    let small : exponent < 32 = elim (cases_order exponent 32) [
      | inl same ↦ absurd (let e : 2 ^ exponent ≡ 2 ^ 32 = ap (λ k. 2 ^ k) same in omega arith)
      | inr apart ↦ (elim apart [ inl less ↦ less | inr more ↦ absurd (let e : 2 ^ 32 < 2 ^ exponent = pow-lt more in omega arith) ])
    ] in
    rw is (trailing_zeros-pow exponent small)
