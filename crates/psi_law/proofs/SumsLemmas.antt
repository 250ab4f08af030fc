-- Sums: what holds of each way to sum, and that the order of two of them doesn't matter.
use Rattle.std.specs.Prelude.{◌≡◌, ℕ, zero, suc, ◌+◌, ◌*◌, ◌%◌, ◌^◌, ◌<◌, ◌≤◌, List, [], ◌∷◌, length, filter, Bool, true, false, nat_eq, if◌then◌else◌, refl}
use Rattle.std.specs.List.{sum_by}
use Rattle.std.proofs.Common.{inl, inr, ap, sym, ◌∙◌, subst, arith}
use Rattle.std.proofs.Math.Nat.{mod-eq_of_lt, add-mod_left, pow-zero, pow-succ'}
use Rattle.std.proofs.lemmas.Bool.{cases_lt, cases_Bool, eqb-true, eqb-false, ne_eqb, false_from_ne_true}
use Rattle.std.proofs.lemmas.List.Sums.{sum_by-cons}
use Rattle.std.proofs.lemmas.Grind.{common_steps}
use Rattle.psi_state.specs.Members.{In}
use Rattle.psi_state.specs.Ascending.{IsDistinct}
use Rattle.psi_law.specs.Counting.{sum_below, after, sum_pasts}

-- one where it is so, and none where it isn't
abbrev pub one_if : Bool → ℕ
one_if b = if b then 1 else 0

pub at_most_one : (b : Bool) → one_if b ≤ 1
at_most_one true = omega arith
at_most_one false = omega arith

-- a way to sum the values of a function
pub record IsSum {A : Type 0} (sum : (A → ℕ) → ℕ) : Type 0 where
  pub none : sum (λ a. 0) ≡ 0
  pub more : (g h : A → ℕ) → sum (λ a. g a + h a) ≡ sum g + sum h
  pub order : (g h : A → ℕ) → ((a : A) → g a ≤ h a) → sum g ≤ sum h

-- the same values have the same sum
pub sum-same : {A : Type 0} (sum : (A → ℕ) → ℕ) → IsSum sum → (g h : A → ℕ) → ((a : A) → g a ≡ h a) → sum g ≡ sum h
sum-same sum is g h same = grind (arith, common_steps)

pub sum-times : {A : Type 0} (sum : (A → ℕ) → ℕ) → IsSum sum → (c : ℕ) (g : A → ℕ) → sum (λ a. c * g a) ≡ c * sum g
sum-times sum is zero g = (let e = sum-same sum is (λ a. zero * g a) (λ a. 0) (λ a. omega arith) in let n = is.none in omega arith)
sum-times sum is (suc c) g =
    omega (arith, sum-same sum is (λ a. suc c * g a) (λ a. g a + c * g a) (λ a. omega arith), is.more g (λ a. c * g a), sum-times sum is c g)

-- one way to sum inside another
pub nested-is : {A B C : Type 0} (outer : (A → ℕ) → ℕ) (inner : (B → ℕ) → ℕ) (join : A → B → C) → IsSum outer → IsSum inner
    → IsSum (λ (g : C → ℕ). outer (λ a. inner (λ b. g (join a b))))
nested-is outer inner join over under = record {
  none = sum-same outer over (λ a. inner (λ b. 0)) (λ a. 0) (λ a. under.none) ∙ over.none;
  more = λ g h. sum-same outer over (λ a. inner (λ b. g (join a b) + h (join a b))) (λ a. inner (λ b. g (join a b)) + inner (λ b. h (join a b)))
      (λ a. under.more (λ b. g (join a b)) (λ b. h (join a b)))
      ∙ over.more (λ a. inner (λ b. g (join a b))) (λ a. inner (λ b. h (join a b)));
  order = λ g h each. grind (arith, common_steps);
}

-- the three ways
pub sum_below-is : (n : ℕ) → IsSum (sum_below n)
unfolding sum_below
sum_below-is zero = record { none = refl; more = λ g h. refl; order = λ g h each. omega arith }
sum_below-is (suc n) = grind (arith, common_steps, (sum_below-is n))

pub sum_pasts-is : (bound n : ℕ) → IsSum (sum_pasts bound n)
sum_pasts-is bound zero = record { none = refl; more = λ g h. refl; order = λ g h each. each (λ k. 0) }
sum_pasts-is bound (suc n) = nested-is (sum_below bound) (sum_pasts bound n) after (sum_below-is bound) (sum_pasts-is bound n)

pub sum_by-is : {A : Type 0} (xs : List A) → IsSum (λ (g : A → ℕ). sum_by g xs)
sum_by-is [] = record { none = refl; more = λ g h. refl; order = λ g h each. omega arith }
sum_by-is (x ∷ xs) = grind (arith, common_steps, sum_by-cons, (sum_by-is xs))

-- the order of two sums doesn't matter
pub sum_by-swap : {A B : Type 0} (sum : (A → ℕ) → ℕ) → IsSum sum → (xs : List B) (g : B → A → ℕ)
    → sum_by (λ x. sum (λ a. g x a)) xs ≡ sum (λ a. sum_by (λ x. g x a) xs)
sum_by-swap sum is [] g = sym is.none
sum_by-swap sum is (x ∷ xs) g = simp (sum_by-cons, is.more, sum_by-swap sum is xs g)

-- only the members of a list count, and only the numbers below the bound
pub sum_by-order : {A : Type 0} (xs : List A) (g h : A → ℕ) → ((x : A) → In x xs → g x ≤ h x) → sum_by g xs ≤ sum_by h xs
sum_by-order [] g h order = omega arith
sum_by-order (x ∷ xs) g h order = simp sum_by-cons (omega (arith, order x (inl refl), sum_by-order xs g h (λ y member. order y (inr member))))

pub sum_by-same : {A : Type 0} (xs : List A) (g h : A → ℕ) → ((x : A) → In x xs → g x ≡ h x) → sum_by g xs ≡ sum_by h xs
sum_by-same xs g h same = grind (arith, common_steps, sum_by-order)

-- what is in each term stands outside the sum
pub sum_by-out : {A : Type 0} (xs : List A) (g : A → ℕ) (c : ℕ) → sum_by (λ x. g x * c) xs ≡ sum_by g xs * c
sum_by-out {A} xs g c =
    omega (arith, sum_by-same xs (λ x. g x * c) (λ x. c * g x) (λ x member. omega arith), sum-times (λ (h : A → ℕ). sum_by h xs) (sum_by-is xs) c g)

-- a test in each term
pub times-one : (b : Bool) (n : ℕ) → b ≡ true → n * one_if b ≡ n
times-one b n so = (let e : n * one_if b ≡ n * 1 = ap (λ (c : Bool). n * one_if c) so in omega arith)

pub times-none : (b : Bool) (n : ℕ) → b ≡ false → n * one_if b ≡ 0
times-none b n not_so = (let e : n * one_if b ≡ n * 0 = ap (λ (c : Bool). n * one_if c) not_so in omega arith)

pub sum_by-filter : {A : Type 0} (test : A → Bool) (g : A → ℕ) (xs : List A) → sum_by g (filter test xs) ≡ sum_by (λ x. g x * one_if (test x)) xs
sum_by-filter test g [] = refl
sum_by-filter test g (x ∷ xs) = grind (arith, sum_by-cons (λ y. g y * one_if (test y)) x xs, sum_by-cons g x (filter test xs), sum_by-filter test g xs)

sum_by-none : {A : Type 0} (xs : List A) (test : A → Bool) (g : A → ℕ) → ((x : A) → In x xs → test x ≡ false) → sum_by (λ x. g x * one_if (test x)) xs ≡ 0
sum_by-none xs test g none =
    sum_by-same xs (λ x. g x * one_if (test x)) (λ x. 0) (λ x member. times-none (test x) (g x) (none x member)) ∙ (sum_by-is xs).none

-- of a list without repeats one member passes the test
pub sum_by-at : {A : Type 0} (xs : List A) (test : A → Bool) (z : A) (g : A → ℕ) → test z ≡ true → ((x : A) → test x ≡ true → x ≡ z)
    → IsDistinct xs → In z xs → sum_by (λ x. g x * one_if (test x)) xs ≡ g z
sum_by-at [] test z g own only distinct member = absurd member
sum_by-at {A} (x ∷ xs) test z g own only distinct member =
    let first = sum_by-cons (λ y. g y * one_if (test y)) x xs in
    elim (cases_Bool (test x)) [
      | inl so ↦ (let one = times-one (test x) (g x) so in
          let same : g x ≡ g z = ap g (only x so) in
          let rest = sum_by-none xs test g (λ y there. false_from_ne_true (test y) (λ also. absurd (distinct.0 (subst (λ (a : A). In a xs) (only y also ∙ sym (only x so)) there)))) in
          omega arith)
      | inr not_so ↦ (let none = times-none (test x) (g x) not_so in
          let there : In z xs = elim member [ inl here ↦ (let t : test x ≡ true = ap test (sym here) ∙ own in absurd cc) | inr later ↦ later ] in
          let rest = sum_by-at xs test z g own only distinct.1 there in
          omega arith)
    ]

-- the sum of a constant is the constant times the sum of ones
pub sum-constant : {A : Type 0} (sum : (A → ℕ) → ℕ) → IsSum sum → (c : ℕ) → sum (λ a. c) ≡ c * sum (λ a. 1)
sum-constant sum is c = sum-same sum is (λ a. c) (λ a. c * 1) (λ a. omega arith) ∙ sum-times sum is c (λ a. 1)

pub sum_by-constant : {A : Type 0} (xs : List A) (c : ℕ) → sum_by (λ (x : A). c) xs ≡ length xs * c
sum_by-constant [] c = omega arith
sum_by-constant (x ∷ xs) c = simp sum_by-cons (omega (arith, sum_by-constant xs c))

-- how many numbers below a bound there are, and how many pasts
pub sum_below-constant : (n c : ℕ) → sum_below n (λ k. c) ≡ n * c
unfolding sum_below
sum_below-constant zero c = omega arith
sum_below-constant (suc n) c = (let rest = sum_below-constant n c in omega arith)

pub pasts-ones : (bound n : ℕ) → sum_pasts bound n (λ past. 1) ≡ bound ^ n
pasts-ones bound zero = sym (pow-zero bound)
pasts-ones bound (suc n) =
    sum_below-constant bound (sum_pasts bound n (λ past. 1)) ∙ (ap (λ m. bound * m) (pasts-ones bound n) ∙ sym (pow-succ' bound n))

pub pasts-constant : (bound n c : ℕ) → sum_pasts bound n (λ past. c) ≡ c * bound ^ n
pasts-constant bound n c = sum-constant (sum_pasts bound n) (sum_pasts-is bound n) c ∙ ap (λ m. c * m) (pasts-ones bound n)

-- only the numbers below the bound count
pub sum_below-same : (n : ℕ) (g h : ℕ → ℕ) → ((k : ℕ) → k < n → g k ≡ h k) → sum_below n g ≡ sum_below n h
unfolding sum_below
sum_below-same zero g h same = refl
sum_below-same (suc n) g h same = grind (arith, common_steps, (sum_below-same n g h (λ k small. same k (omega arith))))

pub sum_below-first : (n : ℕ) (g : ℕ → ℕ) → sum_below (suc n) g ≡ g 0 + sum_below n (λ k. g (suc k))
unfolding sum_below
sum_below-first zero g = omega arith
sum_below-first (suc n) g = (let rest = sum_below-first n g in omega arith)

pub sum_below-add : (a b : ℕ) (g : ℕ → ℕ) → sum_below (a + b) g ≡ sum_below a g + sum_below b (λ k. g (a + k))
unfolding sum_below
sum_below-add a zero g = (let e : a + 0 ≡ a = omega arith in rw e (omega arith))
sum_below-add a (suc b) g = (let e : a + suc b ≡ suc (a + b) = omega arith in rw e (omega (arith, sum_below-add a b g)))

-- what depends on the rest of a division alone is summed as often as the divisor goes into the bound
pub sum_below-rests : (q m : ℕ) (g : ℕ → ℕ) → sum_below (q * m) (λ k. g (k % m)) ≡ q * sum_below m g
unfolding sum_below
sum_below-rests zero m g = (let e : zero * m ≡ 0 = omega arith in rw e (omega arith))
sum_below-rests (suc q) m g =
    let e : suc q * m ≡ m + q * m = omega arith in
    let low = sum_below-same m (λ k. g (k % m)) g (λ k small. ap g (mod-eq_of_lt small)) in
    let high = sum_below-same (q * m) (λ k. g ((m + k) % m)) (λ k. g (k % m)) (λ k small. ap g (add-mod_left m k)) in
    rw e (omega (arith, sum_below-add m (q * m) (λ k. g (k % m)), sum_below-rests q m g))

-- a sum of which one term counts, or none
pub sum_below-none : (n e : ℕ) (g : ℕ → ℕ) → n ≤ e → sum_below n (λ k. g k * one_if (nat_eq k e)) ≡ 0
sum_below-none n e g past =
    sum_below-same n (λ k. g k * one_if (nat_eq k e)) (λ k. 0) (λ k small. times-none (nat_eq k e) (g k) (ne_eqb k e (λ same. omega (arith, same, small, past))))
    ∙ (sum_below-is n).none

pub sum_below-at : (n e : ℕ) (g : ℕ → ℕ) → e < n → sum_below n (λ k. g k * one_if (nat_eq k e)) ≡ g e
unfolding sum_below
sum_below-at zero e g small = absurd (omega arith)
sum_below-at (suc n) e g small =
    elim (cases_Bool (nat_eq n e)) [
      | inl so ↦ (let same = eqb-true n e so in
          let rest = sum_below-none n e g (omega arith) in
          let one = times-one (nat_eq n e) (g n) so in
          let s : g n ≡ g e = ap g same in omega arith)
      | inr not_so ↦ (let apart = eqb-false n e not_so in
          let rest = sum_below-at n e g (elim (cases_lt e n) [ inl less ↦ less | inr more ↦ absurd (apart (omega arith)) ]) in
          let none = times-none (nat_eq n e) (g n) not_so in omega arith)
    ]

-- a member's value is at most the sum
pub sum_by-member : {A : Type 0} (xs : List A) (g : A → ℕ) (y : A) → In y xs → g y ≤ sum_by g xs
sum_by-member [] g y member = absurd member
sum_by-member (x ∷ xs) g y member = elim member [
  | inl here ↦ (let e : g y ≡ g x = ap g here in simp sum_by-cons (omega arith))
  | inr there ↦ simp sum_by-cons (omega (arith, sum_by-member xs g y there))
]
