-- Sums over times, as sums of values times counts.
use Rattle.std.specs.Prelude.{◌≡◌, ℕ, zero, suc, ◌+◌, ◌*◌, ◌<◌, ◌≤◌, ℤ, pos, ◌+ℤ◌, ◌*ℤ◌, Bool, true, false, ◌&&◌, nat_eq, if◌then◌else◌, refl}
use Rattle.std.proofs.Common.{inl, inr, ap, sym, ◌∙◌, subst, arith}
use Rattle.std.proofs.lemmas.Bool.{cases_Bool, cases_lt, eq-eqb}
use Rattle.std.proofs.lemmas.Int.{ints}
use Rattle.psi_path.specs.Sums.{sum_until, integers_until, count_until}
use Rattle.psi_path.proofs.StandLemmas.{apart-nat_eq}
use Rattle.psi_path_table.specs.Inner.SumsKept.{sum_below, integers_below}

-- the sum of what is told of the times 1, 2, .., n
abbrev pub sum_times : (ℕ → ℕ) → ℕ → ℕ
sum_times g zero = 0
sum_times g (suc n) = sum_times g n + g (suc n)

-- the same of integers
abbrev pub integers_times : (ℕ → ℤ) → ℕ → ℤ
integers_times g zero = pos 0
integers_times g (suc n) = integers_times g n +ℤ g (suc n)

-- ---- sums below a number

pub below-same : (f g : ℕ → ℕ) (n : ℕ) → ((k : ℕ) → k < n → f k ≡ g k) → sum_below f n ≡ sum_below g n
below-same f g zero same = refl
below-same f g (suc n) same =
    let rest = below-same f g n (λ k small. same k (omega arith)) in
    let last = same n (omega arith) in omega arith

below-zero : (g : ℕ → ℕ) (n : ℕ) → ((k : ℕ) → k < n → g k ≡ 0) → sum_below g n ≡ 0
below-zero g zero none = refl
below-zero g (suc n) none =
    let rest = below-zero g n (λ k small. none k (omega arith)) in
    let last = none n (omega arith) in omega arith

below-add : (f g h : ℕ → ℕ) (n : ℕ) → ((k : ℕ) → h k ≡ f k + g k) → sum_below h n ≡ sum_below f n + sum_below g n
below-add f g h zero both = refl
below-add f g h (suc n) both =
    let rest = below-add f g h n both in
    let last = both n in omega arith

pub below-longer : (g : ℕ → ℕ) (m n : ℕ) → m ≤ n → sum_below g m ≤ sum_below g n
below-longer g m zero order = (let e : m ≡ zero = omega arith in subst (λ (k : ℕ). sum_below g k ≤ sum_below g zero) (sym e) (omega arith))
below-longer g m (suc n) order = elim (cases_lt n m) [
  | inl last ↦ (let e : m ≡ suc n = omega arith in subst (λ (k : ℕ). sum_below g k ≤ sum_below g (suc n)) (sym e) (omega arith))
  | inr less ↦ (let rest = below-longer g m n less in omega arith)
]

none-times : (n : ℕ) → 0 * n ≡ 0
none-times n = omega arith

-- a value at one number, and 0 at the others
below-one : (w : ℕ → ℕ) (v n : ℕ) → v < n → sum_below (λ j. (if nat_eq v j then 1 else 0) * w j) n ≡ w v
below-one w v zero small = absurd (omega arith)
below-one w v (suc n) small = elim (cases_lt v n) [
  | inl less ↦ (let rest = below-one w v n less in
      let none : (if nat_eq v n then 1 else 0) * w n ≡ 0 = ap (λ (b : Bool). (if b then 1 else 0) * w n) (apart-nat_eq v n (λ e. omega (arith, e, less))) ∙ none-times (w n) in omega arith)
  | inr last ↦ (let e : v ≡ n = omega arith in
      let rest : sum_below (λ j. (if nat_eq v j then 1 else 0) * w j) n ≡ 0 =
      below-zero (λ j. (if nat_eq v j then 1 else 0) * w j) n (λ k inner. ap (λ (b : Bool). (if b then 1 else 0) * w k) (apart-nat_eq v k (λ same. omega (arith, same, e, inner))) ∙ none-times (w k)) in
      let own : (if nat_eq v n then 1 else 0) * w n ≡ 1 * w n = ap (λ (b : Bool). (if b then 1 else 0) * w n) (eq-eqb v n e) in
      let is : w n ≡ w v = ap w (sym e) in omega arith)
]

-- ---- sums over times

pub times-same : (f g : ℕ → ℕ) (n : ℕ) → ((k : ℕ) → f (suc k) ≡ g (suc k)) → sum_times f n ≡ sum_times g n
times-same f g zero same = refl
times-same f g (suc n) same = (let rest = times-same f g n same in let last = same n in omega arith)

pub times-count : (has : ℕ → Bool) (n : ℕ) → sum_times (λ k. if has k then 1 else 0) n ≡ count_until has n
times-count has zero = refl
times-count has (suc n) = ap (λ m. m + (if has (suc n) then 1 else 0)) (times-count has n)

pub count-same : (f g : ℕ → Bool) (n : ℕ) → ((k : ℕ) → f (suc k) ≡ g (suc k)) → count_until f n ≡ count_until g n
count-same f g zero same = refl
count-same f g (suc n) same =
    ap (λ m. m + (if f (suc n) then 1 else 0)) (count-same f g n same) ∙ ap (λ b. count_until g n + (if b then 1 else 0)) (same n)

one-more : (c v : ℕ) (p b : Bool) → (c + (if p && b then 1 else 0)) * v ≡ c * v + (if p && b then 1 else 0) * v
one-more c v p b = elim (cases_Bool (p && b)) [
  | inl so ↦ subst (λ (d : Bool). (c + (if d then 1 else 0)) * v ≡ c * v + (if d then 1 else 0) * v) (sym so) (omega arith)
  | inr not_so ↦ subst (λ (d : Bool). (c + (if d then 1 else 0)) * v ≡ c * v + (if d then 1 else 0) * v) (sym not_so) (omega arith)
]

one-time : (p : Bool) (w : ℕ → ℕ) (v m : ℕ) → v < m → sum_below (λ j. (if p && nat_eq v j then 1 else 0) * w j) m ≡ (if p then w v else 0)
one-time true w v m small = below-one w v m small
one-time false w v m small = below-zero (λ j. (if false && nat_eq v j then 1 else 0) * w j) m (λ k inner. omega arith)

-- of the times that have a property, each has one number: a value of the number, summed over these times, is that value times the count of the times that have it, summed over the numbers
pub sum-of_counts : (has : ℕ → Bool) (number : ℕ → ℕ) (value : ℕ → ℕ) (m n : ℕ) → ((k : ℕ) → number (suc k) < m)
    → sum_below (λ j. count_until (λ k. has k && nat_eq (number k) j) n * value j) m ≡ sum_times (λ k. if has k then value (number k) else 0) n
sum-of_counts has number value m zero small = below-zero (λ j. 0 * value j) m (λ k inner. omega arith)
sum-of_counts has number value m (suc n) small =
    let rest = sum-of_counts has number value m n small in
    let split = below-add (λ j. count_until (λ k. has k && nat_eq (number k) j) n * value j) (λ j. (if has (suc n) && nat_eq (number (suc n)) j then 1 else 0) * value j)
    (λ j. count_until (λ k. has k && nat_eq (number k) j) (suc n) * value j) m
    (λ j. one-more (count_until (λ k. has k && nat_eq (number k) j) n) (value j) (has (suc n)) (nat_eq (number (suc n)) j)) in
    let last = one-time (has (suc n)) value (number (suc n)) m (small n) in
    split ∙ ap (λ a. a + sum_below (λ j. (if has (suc n) && nat_eq (number (suc n)) j then 1 else 0) * value j) m) rest
    ∙ ap (λ b. sum_times (λ k. if has k then value (number k) else 0) n + b) last

-- what is told of the states before the events and of the last state is told of all states
pub sum-of_all : (g before : ℕ → ℕ) (n : ℕ) → ((k : ℕ) → before (suc k) ≡ g k) → sum_times before n + g n ≡ sum_until g n
sum-of_all g before zero is = omega arith
sum-of_all g before (suc n) is = (let rest = sum-of_all g before n is in let own = is n in omega arith)

pub until-same : (f g : ℕ → ℕ) (n : ℕ) → ((k : ℕ) → f k ≡ g k) → sum_until f n ≡ sum_until g n
until-same f g zero same = same zero
until-same f g (suc n) same = (let rest = until-same f g n same in let last = same (suc n) in omega arith)

-- ---- the same of integers

plain-both : (a b c d : ℤ) → (a +ℤ b) +ℤ (c +ℤ d) ≡ (a +ℤ c) +ℤ (b +ℤ d)
plain-both a b c d = omega (arith, ints)

plain-zero : (a : ℤ) → a +ℤ pos 0 ≡ a
plain-zero a = omega (arith, ints)

plain-first : (a : ℤ) → pos 0 +ℤ a ≡ a
plain-first a = omega (arith, ints)

times-zero : (w : ℤ) → pos 0 *ℤ w ≡ pos 0
times-zero w = omega (arith, ints)

times-one : (w : ℤ) → pos 1 *ℤ w ≡ w
times-one w = omega (arith, ints)

times-more : (c : ℕ) (w : ℤ) → pos (c + 1) *ℤ w ≡ (pos c *ℤ w) +ℤ (pos 1 *ℤ w)
times-more c w = omega (arith, ints)

times-none : (c : ℕ) (w : ℤ) → pos (c + 0) *ℤ w ≡ (pos c *ℤ w) +ℤ (pos 0 *ℤ w)
times-none c w = omega (arith, ints)

integers-zero : (g : ℕ → ℤ) (n : ℕ) → ((k : ℕ) → k < n → g k ≡ pos 0) → integers_below g n ≡ pos 0
integers-zero g zero none = refl
integers-zero g (suc n) none =
    ap (λ z. z +ℤ g n) (integers-zero g n (λ k small. none k (omega arith))) ∙ ap (λ z. pos 0 +ℤ z) (none n (omega arith)) ∙ plain-zero (pos 0)

integers-add : (f g h : ℕ → ℤ) (n : ℕ) → ((k : ℕ) → h k ≡ f k +ℤ g k) → integers_below h n ≡ integers_below f n +ℤ integers_below g n
integers-add f g h zero both = refl
integers-add f g h (suc n) both =
    ap (λ z. z +ℤ h n) (integers-add f g h n both) ∙ ap (λ z. (integers_below f n +ℤ integers_below g n) +ℤ z) (both n)
    ∙ plain-both (integers_below f n) (integers_below g n) (f n) (g n)

integers-one : (w : ℕ → ℤ) (v n : ℕ) → v < n → integers_below (λ j. pos (if nat_eq v j then 1 else 0) *ℤ w j) n ≡ w v
integers-one w v zero small = absurd (omega arith)
integers-one w v (suc n) small = elim (cases_lt v n) [
  | inl less ↦
      (let none : pos (if nat_eq v n then 1 else 0) *ℤ w n ≡ pos 0 = ap (λ (b : Bool). pos (if b then 1 else 0) *ℤ w n) (apart-nat_eq v n (λ e. omega (arith, e, less))) ∙ times-zero (w n) in
      ap (λ z. z +ℤ (pos (if nat_eq v n then 1 else 0) *ℤ w n)) (integers-one w v n less) ∙ ap (λ z. w v +ℤ z) none ∙ plain-zero (w v))
  | inr last ↦ (let e : v ≡ n = omega arith in
      let rest : integers_below (λ j. pos (if nat_eq v j then 1 else 0) *ℤ w j) n ≡ pos 0 =
      integers-zero (λ j. pos (if nat_eq v j then 1 else 0) *ℤ w j) n
      (λ k inner. ap (λ (b : Bool). pos (if b then 1 else 0) *ℤ w k) (apart-nat_eq v k (λ same. omega (arith, same, e, inner))) ∙ times-zero (w k)) in
      let own : pos (if nat_eq v n then 1 else 0) *ℤ w n ≡ w n = ap (λ (b : Bool). pos (if b then 1 else 0) *ℤ w n) (eq-eqb v n e) ∙ times-one (w n) in
      ap (λ z. z +ℤ (pos (if nat_eq v n then 1 else 0) *ℤ w n)) rest ∙ ap (λ z. pos 0 +ℤ z) own ∙ plain-first (w n) ∙ ap w (sym e))
]

one-integer : (c : ℕ) (w : ℤ) (b : Bool) → pos (c + (if b then 1 else 0)) *ℤ w ≡ (pos c *ℤ w) +ℤ (pos (if b then 1 else 0) *ℤ w)
one-integer c w true = times-more c w
one-integer c w false = times-none c w

pub integers-of_counts : (number : ℕ → ℕ) (value : ℕ → ℤ) (m n : ℕ) → ((k : ℕ) → number (suc k) < m)
    → integers_below (λ j. pos (count_until (λ k. nat_eq (number k) j) n) *ℤ value j) m ≡ integers_times (λ k. value (number k)) n
integers-of_counts number value m zero small = integers-zero (λ j. pos 0 *ℤ value j) m (λ k inner. times-zero (value k))
integers-of_counts number value m (suc n) small =
    let rest = integers-of_counts number value m n small in
    let split = integers-add (λ j. pos (count_until (λ k. nat_eq (number k) j) n) *ℤ value j) (λ j. pos (if nat_eq (number (suc n)) j then 1 else 0) *ℤ value j)
    (λ j. pos (count_until (λ k. nat_eq (number k) j) (suc n)) *ℤ value j) m
    (λ j. one-integer (count_until (λ k. nat_eq (number k) j) n) (value j) (nat_eq (number (suc n)) j)) in
    split ∙ ap (λ z. z +ℤ integers_below (λ j. pos (if nat_eq (number (suc n)) j then 1 else 0) *ℤ value j) m) rest
    ∙ ap (λ z. integers_times (λ k. value (number k)) n +ℤ z) (integers-one value (number (suc n)) m (small n))

pub integers-of_all : (g before : ℕ → ℤ) (n : ℕ) → ((k : ℕ) → before (suc k) ≡ g k) → integers_times before n +ℤ g n ≡ integers_until g n
integers-of_all g before zero is = plain-first (g zero)
integers-of_all g before (suc n) is =
    ap (λ z. z +ℤ g (suc n)) (ap (λ z. integers_times before n +ℤ z) (is n) ∙ integers-of_all g before n is)

pub integers-same : (f g : ℕ → ℤ) (n : ℕ) → ((k : ℕ) → f k ≡ g k) → integers_until f n ≡ integers_until g n
integers-same f g zero same = same zero
integers-same f g (suc n) same = ap (λ z. z +ℤ f (suc n)) (integers-same f g n same) ∙ ap (λ z. integers_until g n +ℤ z) (same (suc n))
