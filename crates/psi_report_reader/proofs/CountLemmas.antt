-- Counts of horizons, with one more and with many.
use Rattle.std.specs.Prelude.{◌≡◌, ℕ, zero, suc, ◌+◌, ◌-◌, ◌<◌, ◌≤◌, List, [], ◌∷◌, ◌++◌, length, take, true, false, refl}
use Rattle.std.specs.List.{insert}
use Rattle.std.proofs.Common.{get_or, set, ap, sym, ◌∙◌, arith}
use Rattle.std.proofs.lemmas.Bool.{and_right, ne_eqb, le-ltb, false_from_ne_true}
use Rattle.std.proofs.lemmas.Bool.Decides.{nat_tests}
use Rattle.std.proofs.lemmas.List.{take_more}
use Rattle.psi_report.specs.declared.figure.HorizonCount.{HorizonCount}
use Rattle.psi_report_reader.specs.Counts.{with_count, place_of, joined_counts}
use Rattle.psi_report_reader.specs.Merging.{is_count, counts_fit}

-- ---- one more count

pub with_count-higher : (k c : HorizonCount) (cs : List HorizonCount) → c.horizon < k.horizon → with_count k (c ∷ cs) ≡ c ∷ with_count k cs
with_count-higher k c cs more = rw (ne_eqb k.horizon c.horizon (λ e. omega arith), le-ltb k.horizon c.horizon (omega arith)) refl

-- where its horizon is there, it is added
pub with_count-set : (k e : HorizonCount) (cs : List HorizonCount) (p : ℕ) → place_of k.horizon cs ≡ p → p < length cs → e ≡ get_or cs p e → e.horizon ≡ k.horizon
    → with_count k cs ≡ set cs p (record { horizon = e.horizon; count = k.count + e.count })
with_count-set k e [] p at small is same = absurd (omega arith)
with_count-set k e (c ∷ cs) zero at small is same = grind (arith, nat_tests)
with_count-set k e (c ∷ cs) (suc p) at small is same = grind (arith, nat_tests, with_count-set k e cs p)

-- where it isn't, it goes to its place
pub with_count-insert : (k : HorizonCount) (cs : List HorizonCount) (p : ℕ) → place_of k.horizon cs ≡ p → ((d : HorizonCount) → p < length cs → (get_or cs p d).horizon ≡ k.horizon → ⊥)
    → with_count k cs ≡ insert cs p k
with_count-insert k [] p at other = (let none : p ≡ 0 = sym at in rw none refl)
with_count-insert k (c ∷ cs) zero at other = grind (arith, nat_tests, other c)
with_count-insert k (c ∷ cs) (suc p) at other =
    let above : (c.horizon < k.horizon) × (place_of k.horizon cs ≡ p) = grind (arith, nat_tests) in
    with_count-higher k c cs above.0 ∙ ap (λ xs. c ∷ xs) (with_count-insert k cs p above.1 (λ d small same. other d (omega arith) same))

-- a sum that has more than 64 bits
pub counts_fit-not : (cs : List HorizonCount) (p : ℕ) (e : HorizonCount) → p < length cs → is_count e.count ≡ false → counts_fit (set cs p e) ≡ false
counts_fit-not [] p e small large = absurd (omega arith)
counts_fit-not (c ∷ cs) zero e small large = rw large refl
counts_fit-not (c ∷ cs) (suc p) e small large = and_right (is_count c.count) (counts_fit (set cs p e)) (counts_fit-not cs p e (omega arith) large)

-- ---- many counts

-- what fits with one more fits
counts_fit-kept : (k : HorizonCount) (cs : List HorizonCount) → counts_fit (with_count k cs) ≡ true → counts_fit cs ≡ true
counts_fit-kept k [] fit = refl
counts_fit-kept k (c ∷ cs) fit = grind (arith, nat_tests, counts_fit-kept k cs)

fit-joined : (cs ks : List HorizonCount) → counts_fit (joined_counts cs ks) ≡ true → counts_fit ks ≡ true
fit-joined [] ks fit = fit
fit-joined (c ∷ cs) ks fit = fit-joined cs ks (counts_fit-kept c (joined_counts cs ks) fit)

pub counts_fit-joined : (cs ks : List HorizonCount) → counts_fit ks ≡ false → counts_fit (joined_counts cs ks) ≡ false
counts_fit-joined cs ks large = false_from_ne_true (counts_fit (joined_counts cs ks)) (λ fit. (let fits = fit-joined cs ks fit in absurd cc))

-- the last of the counts comes first
joined_counts-last : (cs : List HorizonCount) (c : HorizonCount) (ks : List HorizonCount) → joined_counts (cs ++ c ∷ []) ks ≡ joined_counts cs (with_count c ks)
joined_counts-last [] c ks = refl
joined_counts-last (b ∷ cs) c ks = ap (with_count b) (joined_counts-last cs c ks)

-- one more of them is added, the last first
pub joined_counts-step : (cs : List HorizonCount) (i : ℕ) (d : HorizonCount) (ks : List HorizonCount) → i < length cs
    → joined_counts (take (length cs - i) cs) ks ≡ joined_counts (take (length cs - (i + 1)) cs) (with_count (get_or cs (length cs - 1 - i) d) ks)
joined_counts-step cs i d ks small =
    let p : ℕ = length cs - 1 - i in
    let now : length cs - i ≡ p + 1 = omega arith in
    let next : length cs - (i + 1) ≡ p = omega arith in
    rw (now, next, take_more cs p d (omega arith)) (joined_counts-last (take p cs) (get_or cs p d) ks)

-- a sum of more than 64 bits doesn't fit
pub added-large : (k e : HorizonCount) (cs : List HorizonCount) (p : ℕ) → place_of k.horizon cs ≡ p → p < length cs → e ≡ get_or cs p e → e.horizon ≡ k.horizon
    → 18446744073709551616 ≤ k.count + e.count → counts_fit (with_count k cs) ≡ false
added-large k e cs p at small is same large =
    rw (with_count-set k e cs p at small is same) (counts_fit-not cs p (record { horizon = e.horizon; count = k.count + e.count }) small (le-ltb (k.count + e.count) 18446744073709551616 large))
