-- The different horizons of samples are those powers of two that are the horizon of some sample.
use Rattle.std.proofs.Common.{◌≡◌, ℕ, zero, suc, ◌+◌, ◌^◌, ◌<◌, ◌≤◌, List, [], ◌∷◌, map, ◌==◌, nat_lt, ◌||◌, Bool, true, false, inl, inr, ap, sym, ◌∙◌, refl, subst, arith, add-one, cond}
use Rattle.std.specs.List.{filter, All}
use Rattle.std.proofs.Math.Pow.{pow-lt}
use Rattle.std.proofs.lemmas.Bool.{cases_eq, cases_Bool, eq-eqb, ne_eqb, lt-ltb, le-ltb}
use Rattle.std.proofs.lemmas.List.Elements.{filter_agree, All-head, All-tail}
use Rattle.std.proofs.lemmas.List.Sums.{sum_by-cons}
use Rattle.psi_state.specs.State.{numbers_from}
use Rattle.psi_state.specs.Members.{In}
use Rattle.psi_report.specs.Distinct.{insert_number, distinct}
use Rattle.psi_report.specs.Samples.{IsHorizon}
use Rattle.psi_report.specs.declared.figure.HorizonCount.{HorizonCount}
use Rattle.psi_report.specs.Report.{times, horizon_count}
use Rattle.psi_report.specs.Totals.{powers}
use Rattle.psi_report.specs.Figures.{count_of, counts_of}

-- each number of the list is above this one
abbrev pub AreAbove : ℕ → List ℕ → Type 0
AreAbove x [] = Unit {0}
AreAbove x (y ∷ ys) = (x < y) × AreAbove x ys

-- each number is below all that follow it
abbrev pub Ascends : List ℕ → Type 0
Ascends [] = Unit {0}
Ascends (x ∷ xs) = AreAbove x xs × Ascends xs

-- a number stands in the list
abbrev occurs : List ℕ → ℕ → Bool
occurs hs t = nat_lt 0 (times t hs)

above-filter : (x : ℕ) (p : ℕ → Bool) (ys : List ℕ) → AreAbove x ys → AreAbove x (filter p ys)
above-filter x p [] h = tt
above-filter x p (y ∷ ys) h = elim (cases_Bool (p y)) [
  | inl is ↦ rw is (h.0, above-filter x p ys h.1)
  | inr is ↦ rw is (above-filter x p ys h.1)
]

insert_number-first : (n : ℕ) (ms : List ℕ) → AreAbove n ms → insert_number n ms ≡ n ∷ ms
insert_number-first n [] h = refl
insert_number-first n (m ∷ ms) h = let small : n < m = h.0 in rw (ne_eqb n m (λ e. omega arith), lt-ltb n m small) refl

filter-above : (n : ℕ) (p : ℕ → Bool) (xs : List ℕ) → AreAbove n xs → filter (λ x. (n == x) || p x) xs ≡ filter p xs
filter-above n p [] h = refl
filter-above n p (x ∷ xs) h = let small : n < x = h.0 in rw (ne_eqb n x (λ e. omega arith), filter-above n p xs h.1) refl

insert_here : (x : ℕ) (p : ℕ → Bool) (xs : List ℕ) → AreAbove x xs → (b : Bool) → p x ≡ b
    → insert_number x (filter p (x ∷ xs)) ≡ filter (λ y. (x == y) || p y) (x ∷ xs)
insert_here x p xs above true is = rw (is, eq-eqb x x refl, filter-above x p xs above) refl
insert_here x p xs above false is =
    rw (is, eq-eqb x x refl, filter-above x p xs above) (insert_number-first x (filter p xs) (above-filter x p xs above))

insert_past : (n x : ℕ) (p : ℕ → Bool) (xs : List ℕ) → x < n → insert_number n (filter p xs) ≡ filter (λ y. (n == y) || p y) xs
    → (b : Bool) → p x ≡ b → insert_number n (filter p (x ∷ xs)) ≡ filter (λ y. (n == y) || p y) (x ∷ xs)
insert_past n x p xs small rest true is = rw (is, ne_eqb n x (λ e. omega arith), le-ltb n x (omega arith), rest) refl
insert_past n x p xs small rest false is = rw (is, ne_eqb n x (λ e. omega arith), rest) refl

above-member : (x n : ℕ) (xs : List ℕ) → AreAbove x xs → In n xs → x < n
above-member x n [] above here = absurd here
above-member x n (y ∷ ys) above (inl same) = (let small : x < y = above.0 in omega arith)
above-member x n (y ∷ ys) above (inr later) = above-member x n ys above.1 later

-- a number of an ascending list among those of it that pass a test
pub insert_number-filter : (n : ℕ) (p : ℕ → Bool) (xs : List ℕ) → Ascends xs → In n xs → insert_number n (filter p xs) ≡ filter (λ x. (n == x) || p x) xs
insert_number-filter n p [] order here = absurd here
insert_number-filter n p (x ∷ xs) order (inl same) =
    subst (λ (m : ℕ). insert_number m (filter p (x ∷ xs)) ≡ filter (λ y. (m == y) || p y) (x ∷ xs)) (sym same) (insert_here x p xs order.0 (p x) refl)
insert_number-filter n p (x ∷ xs) order (inr later) =
    insert_past n x p xs (above-member x n xs order.0 later) (insert_number-filter n p xs order.1 later) (p x) refl

filter-none : (xs : List ℕ) → [] ≡ filter (λ x. false) xs
filter-none [] = refl
filter-none (x ∷ xs) = filter-none xs

times-cons : (h : ℕ) (hs : List ℕ) (t : ℕ) → times t (h ∷ hs) ≡ cond (h == t) 1 0 + times t hs
times-cons h hs t = sum_by-cons (λ m. cond (m == t) 1 0) h hs

occurs-cons : (h : ℕ) (hs : List ℕ) (t : ℕ) (b : Bool) → (h == t) ≡ b → ((h == t) || occurs hs t) ≡ occurs (h ∷ hs) t
occurs-cons h hs t true is =
    let one : cond {A = ℕ} (h == t) 1 0 ≡ 1 = rw is refl in
    ap (λ (b : Bool). b || occurs hs t) is ∙ sym (lt-ltb 0 (times t (h ∷ hs)) (omega (arith, times-cons h hs t)))
occurs-cons h hs t false is =
    let none : cond {A = ℕ} (h == t) 1 0 ≡ 0 = rw is refl in
    let same : times t hs ≡ times t (h ∷ hs) = omega (arith, times-cons h hs t) in
    ap (λ (b : Bool). b || occurs hs t) is ∙ ap (λ (n : ℕ). nat_lt 0 n) same

-- the different numbers of a list, where each is one of an ascending list
pub distinct-filter : (ps hs : List ℕ) → Ascends ps → ((k : ℕ) → In k hs → In k ps) → distinct hs ≡ filter (occurs hs) ps
unfolding distinct
distinct-filter ps [] order among = filter-none ps
distinct-filter ps (h ∷ hs) order among =
    rw (distinct-filter ps hs order (λ k here. among k (inr here)))
    (insert_number-filter h (occurs hs) ps order (among h (inl refl))
    ∙ filter_agree (λ t. (h == t) || occurs hs t) (occurs (h ∷ hs)) (λ t. occurs-cons h hs t (h == t) refl) ps)

-- so many powers of two one after another, from the one with this exponent on
abbrev powers_from : ℕ → ℕ → List ℕ
powers_from k n = map (λ k. 2 ^ k) (numbers_from k n)

powers-above : (j k n : ℕ) → j < k → AreAbove (2 ^ j) (powers_from k n)
powers-above j k zero small = tt
powers-above j k (suc n) small = (pow-lt small, powers-above j (suc k) n (omega arith))

powers-ascend : (k n : ℕ) → Ascends (powers_from k n)
powers-ascend k zero = tt
powers-ascend k (suc n) = (powers-above k (suc k) n (omega arith), powers-ascend (suc k) n)

powers-member : (e k n : ℕ) → k ≤ e → e < k + n → In (2 ^ e) (powers_from k n)
powers-member e k zero low high = absurd (omega arith)
powers-member e k (suc n) low high = elim (cases_eq e k) [
  | inl same ↦ inl (ap (λ i. 2 ^ i) same)
  | inr other ↦ inr (powers-member e (suc k) n (omega arith) (omega arith))
]

-- a horizon with its number
abbrev pub counted : (ℕ → ℕ) → ℕ → HorizonCount
counted f t = record { horizon = t; count = f t }

counts_of-powers : (f : ℕ → ℕ) (k n : ℕ) → counts_of k (map f (powers_from k n)) ≡ map (counted f) (filter (λ t. nat_lt 0 (f t)) (powers_from k n))
unfolding counts_of count_of
counts_of-powers f k zero = refl
counts_of-powers f k (suc n) = elim (cases_Bool (nat_lt 0 (f (2 ^ k)))) [
  | inl is ↦ rw (is, add-one, counts_of-powers f (suc k) n) refl
  | inr is ↦ rw (is, add-one, counts_of-powers f (suc k) n) refl
]

horizons-among : (hs : List ℕ) → All IsHorizon hs → (k : ℕ) → In k hs → In k (powers_from 0 23)
horizons-among [] all k here = absurd here
horizons-among (h ∷ hs) all k (inl same) =
    let is = All-head IsHorizon h hs all in
    subst (λ (n : ℕ). In n (powers_from 0 23)) (sym (same ∙ is.power)) (powers-member is.exponent 0 23 (omega arith) (let few = is.few in omega arith))
horizons-among (h ∷ hs) all k (inr later) = horizons-among hs (All-tail IsHorizon h hs all) k later

-- the horizons that samples have, from how often each power of two is one
pub counts_of-horizons : (hs : List ℕ) → All IsHorizon hs → counts_of 0 (map (λ t. times t hs) powers) ≡ map (horizon_count hs) (distinct hs)
counts_of-horizons hs all =
    counts_of-powers (λ t. times t hs) 0 23
    ∙ ap (λ ts. map (horizon_count hs) ts) (sym (distinct-filter (powers_from 0 23) hs (powers-ascend 0 23) (horizons-among hs all)))
