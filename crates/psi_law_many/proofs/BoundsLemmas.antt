-- Numbers whose mean is known, between two scores: those of the stationary states that samples are drawn with.
use Rattle.std.specs.Prelude.{◌≡◌, ℕ, ◌+◌, ◌-◌, ◌*◌, ◌^◌, ◌≤◌, List, refl}
use Rattle.std.proofs.Math.Nat.{mul-sub}
use Rattle.std.proofs.Common.{ap, sym, ◌∙◌, arith}
use Rattle.psi_state.specs.declared.Outcome.{Outcome}
use Rattle.psi_state.specs.declared.Outcome.TheVariants.{Met, NotMet}
use Rattle.psi_law.specs.Counting.{Words, sum_pasts}
use Rattle.psi_law.specs.Wheel.{word_count}
use Rattle.psi_law.specs.Chains.{Chain, IsChain, end_of, whole, weighted}
use Rattle.psi_law.specs.Samples.{Reaches}
use Rattle.psi_law.proofs.SumsLemmas.{IsSum, sum-same, sum-times, sum-constant, sum_pasts-is, pasts-constant, nested-is}
use Rattle.psi_law.proofs.ChainLemmas.{Own, end_of-keeps}
use Rattle.psi_law.proofs.BalanceLemmas.{weighted-is, weighted-same, weighted-order, weighted-constant, under-weighted, over-weighted, weighted-pasts}
use Rattle.psi_law.proofs.LawLemmas.{MeetsAt}
use Rattle.psi_law_many.specs.Values.{value_or, IsMeasured, Score, surplus, deficit, added}
use Rattle.psi_law_many.proofs.ScoreLemmas.{IsScore}

-- a number of each state and each past of n words, by a way to sum over the states: it is at least the score s, and at most what the score t leaves of the top;
-- over all states and pasts, it has the mean that s is compared with
pub record AreBounds {X : Type 0} (outer : (X → ℕ) → ℕ) (own : X → Type 0) (number : X → Words → ℕ) (n : ℕ) (s t : Score) : Type 0 where
  pub is : IsSum outer
  pub order : (g h : X → ℕ) → ((x : X) → own x → g x ≤ h x) → outer g ≤ outer h
  pub some : (x : X) × own x
  pub least : (x : X) (past : Words) → own x → s.score past ≤ number x past
  pub most : (x : X) (past : Words) → own x → number x past + t.score past ≤ s.top
  pub ones : outer (λ x. 1) ≡ s.whole
  pub mean : outer (λ x. sum_pasts word_count n (number x)) ≡ s.part * word_count ^ n
  pub top : t.top ≡ s.top
  pub whole : t.whole ≡ s.whole
  pub parts : s.part + t.part ≡ s.whole * s.top

-- what a number leaves of the top
abbrev pub rest_of : {X : Type 0} → (X → Words → ℕ) → ℕ → X → Words → ℕ
rest_of number top x past = top - number x past

module _ {X : Type 0} {outer : (X → ℕ) → ℕ} {own : X → Type 0} {number : X → Words → ℕ} {n : ℕ} {s t : Score} (are : AreBounds outer own number n s t) where
  pub first-score : IsScore n s
  first-score =
      let sum = sum_pasts word_count n in
      let order = are.order (λ x. sum s.score) (λ x. sum (number x)) (λ x is. (sum_pasts-is word_count n).order s.score (number x) (λ past. are.least x past is)) in
      let constant = rw are.ones at (sum-constant outer are.is (sum s.score)) in
      let mean = are.mean in
      let parts = are.parts in
      record {
        most = λ past. (let least = are.least are.some.0 past are.some.1 in let most = are.most are.some.0 past are.some.1 in omega arith);
        mean = omega arith;
        share = omega arith;
      }

  -- what it leaves of the top has the scores exchanged
  pub exchanged : AreBounds outer own (rest_of number s.top) n t s
  exchanged =
      let top = are.top in
      let sum = sum_pasts word_count n in
      let left : X → Words → ℕ = rest_of number s.top in
      let each : (x : X) → own x → sum (left x) + sum (number x) ≡ s.top * word_count ^ n =
      λ x is. sym ((sum_pasts-is word_count n).more (left x) (number x))
      ∙ (sum-same sum (sum_pasts-is word_count n) (λ past. left x past + number x past) (λ past. s.top) (λ past. (let most = are.most x past is in omega arith)) ∙ pasts-constant word_count n s.top) in
      let both = are.is.more (λ x. sum (left x)) (λ x. sum (number x)) in
      let under = are.order (λ x. sum (left x) + sum (number x)) (λ x. s.top * word_count ^ n) (λ x is. (let e = each x is in omega arith)) in
      let over = are.order (λ x. s.top * word_count ^ n) (λ x. sum (left x) + sum (number x)) (λ x is. (let e = each x is in omega arith)) in
      let constant = rw are.ones at (sum-constant outer are.is (s.top * word_count ^ n)) in
      let mean = are.mean in
      let parts : (s.part + t.part) * word_count ^ n ≡ s.whole * s.top * word_count ^ n = ap (λ m. m * word_count ^ n) are.parts in
      record {
        is = are.is;
        order = are.order;
        some = are.some;
        least = λ x past is. (let most = are.most x past is in omega arith);
        most = λ x past is. (let least = are.least x past is in let most = are.most x past is in omega arith);
        ones = are.ones ∙ sym are.whole;
        mean = omega arith;
        top = sym top;
        whole = sym are.whole;
        parts = (let sides = are.parts in (let e : t.part + s.part ≡ s.part + t.part = omega arith in e ∙ (sides ∙ (ap (λ m. m * s.top) (sym are.whole) ∙ ap (λ m. t.whole * m) (sym top)))));
      }

-- ---- the sum of two numbers under the same past

added-parts : (p q s y v u t z : ℕ) → p + q ≡ s * y → v + u ≡ t * z → p * t + v * s + (q * t + u * s) ≡ s * t * (y + z)
added-parts p q s y v u t z one two =
    (let first : (p + q) * t ≡ s * y * t = ap (λ m. m * t) one in let last : (v + u) * s ≡ t * z * s = ap (λ m. m * s) two in omega arith)

-- the sum over two kinds of states, the states of both, and the sum of their numbers
abbrev pub both_sums : {X Y : Type 0} → ((X → ℕ) → ℕ) → ((Y → ℕ) → ℕ) → (X × Y → ℕ) → ℕ
both_sums outer outer2 g = outer (λ x. outer2 (λ y. g (x, y)))

abbrev pub both_own : {X Y : Type 0} → (X → Type 0) → (Y → Type 0) → X × Y → Type 0
both_own own own2 both = own both.0 × own2 both.1

abbrev pub both_numbers : {X Y : Type 0} → (X → Words → ℕ) → (Y → Words → ℕ) → X × Y → Words → ℕ
both_numbers number number2 both past = number both.0 past + number2 both.1 past

module _ {X Y : Type 0} {outer : (X → ℕ) → ℕ} {own : X → Type 0} {number : X → Words → ℕ} {outer2 : (Y → ℕ) → ℕ} {own2 : Y → Type 0} {number2 : Y → Words → ℕ} {n : ℕ} {s t u v : Score}
    (one : AreBounds outer own number n s t) (two : AreBounds outer2 own2 number2 n u v) where
  both-ones : both_sums outer outer2 (λ both. 1) ≡ s.whole * u.whole
  both-ones = sum-constant outer one.is (outer2 (λ y. 1)) ∙ (ap (λ m. m * outer (λ x. 1)) two.ones ∙ (ap (λ m. u.whole * m) one.ones ∙ omega arith))

  both-mean : both_sums outer outer2 (λ both. sum_pasts word_count n (both_numbers number number2 both)) ≡ (s.part * u.whole + u.part * s.whole) * word_count ^ n
  both-mean =
      let sum = sum_pasts word_count n in
      let each : (x : X) → outer2 (λ y. sum (λ past. number x past + number2 y past)) ≡ u.whole * sum (number x) + u.part * word_count ^ n =
      λ x. sum-same outer2 two.is (λ y. sum (λ past. number x past + number2 y past)) (λ y. sum (number x) + sum (number2 y)) (λ y. (sum_pasts-is word_count n).more (number x) (number2 y))
      ∙ (two.is.more (λ y. sum (number x)) (λ y. sum (number2 y))
      ∙ (let constant = rw two.ones at (sum-constant outer2 two.is (sum (number x))) in
      let mean = two.mean in omega arith)) in
      let all = sum-same outer one.is (λ x. outer2 (λ y. sum (λ past. number x past + number2 y past))) (λ x. u.whole * sum (number x) + u.part * word_count ^ n) each in
      let more = one.is.more (λ x. u.whole * sum (number x)) (λ x. u.part * word_count ^ n) in
      let times = rw one.mean at (sum-times outer one.is u.whole (λ x. sum (number x))) in
      let constant = rw one.ones at (sum-constant outer one.is (u.part * word_count ^ n)) in
      omega arith

  pub both-bounds : AreBounds (both_sums outer outer2) (both_own own own2) (both_numbers number number2) n (added s u) (added t v)
  both-bounds = record {
    is = nested-is outer outer2 (λ x y. (x, y)) one.is two.is;
    order = λ g h each. one.order (λ x. outer2 (λ y. g (x, y))) (λ x. outer2 (λ y. h (x, y))) (λ x is. two.order (λ y. g (x, y)) (λ y. h (x, y)) (λ y also. each (x, y) (is, also)));
    some = ((one.some.0, two.some.0), (one.some.1, two.some.1));
    least = λ both past is. (let first = one.least both.0 past is.0 in let last = two.least both.1 past is.1 in omega arith);
    most = λ both past is. (let first = one.most both.0 past is.0 in let last = two.most both.1 past is.1 in omega arith);
    ones = both-ones;
    mean = both-mean;
    top = (let first = one.top in let last = two.top in omega arith);
    whole = ap (λ m. m * v.whole) one.whole ∙ ap (λ m. s.whole * m) two.whole;
    parts = rw (two.whole, one.whole) (added-parts s.part t.part s.whole s.top u.part v.part u.whole u.top one.parts two.parts);
  }

-- ---- how far values are above low, and how far below high

or-least : (o : Outcome) (z : List ℕ) (value : List ℕ → ℕ) (low : ℕ) → low ≤ value z → MeetsAt z o → value_or low value o ≤ value z
or-least (Met t y) z value low above at = (let e : value z ≡ value y = ap value (at t y refl) in omega arith)
or-least (NotMet l) z value low above at = above

or-most : (o : Outcome) (z : List ℕ) (value : List ℕ → ℕ) (high : ℕ) → value z ≤ high → MeetsAt z o → value z ≤ value_or high value o
or-most (Met t y) z value high below at = (let e : value z ≡ value y = ap value (at t y refl) in omega arith)
or-most (NotMet l) z value high below at = below

range-of : (s v low high : ℕ) → s * low ≤ v → v ≤ s * high → v - low * s + (high * s - v) ≡ s * (high - low)
range-of s v low high least most = (let e = mul-sub s high low in omega arith)

-- the value where a run of n steps ends, above low
abbrev pub rise : Chain → ℕ → (List ℕ → ℕ) → ℕ → List ℕ → Words → ℕ
rise chain n value low x past = value (end_of chain past n x) - low

-- samples of a chain that all states reach, and values from low to high
module _ {chain : Chain} {sample : Words → Outcome} {n : ℕ} (is : IsChain chain) (reaches : Reaches chain sample n)
    {weight value : List ℕ → ℕ} {low high : ℕ} (measured : IsMeasured chain weight value low high) where
  pub range-order : low ≤ high
  range-order = (let some = is.finite.some in let first = measured.above some.0 some.1 in let last = measured.below some.0 some.1 in omega arith)

  -- where a run of n steps ends, the value is between those of the sample
  pub end-bounds : (x : List ℕ) (past : Words) → Own chain x → (low ≤ value (end_of chain past n x)) × (value_or low value (sample past) ≤ value (end_of chain past n x))
      × (value (end_of chain past n x) ≤ value_or high value (sample past)) × (value (end_of chain past n x) ≤ high)
  end-bounds x past own =
      let end = end_of chain past n x in
      let kept = end_of-keeps chain past n x is.finite own in
      let above = measured.above end kept in
      let below = measured.below end kept in
      (above, or-least (sample past) end value low above (reaches.each past x own), or-most (sample past) end value high below (reaches.each past x own), below)

  pub sample-bounds : AreBounds (weighted chain weight) (Own chain) (rise chain n value low) n (surplus sample chain weight value low high) (deficit sample chain weight value low high)
  sample-bounds =
      let s = whole chain weight in
      let v = weighted chain weight value in
      let still = weighted-pasts chain weight is n (λ y. value y - low) measured.balanced in
      let same = weighted-same chain weight value (λ y. value y - low + low) (λ y own. (let least = measured.above y own in omega arith)) in
      let more = (weighted-is chain weight).more (λ y. value y - low) (λ y. low) in
      let constant = weighted-constant chain weight low in
      let part : weighted chain weight (λ y. value y - low) ≡ v - low * s = omega arith in
      record {
        is = weighted-is chain weight;
        order = weighted-order chain weight;
        some = is.finite.some;
        least = λ x past own. (let ends = end-bounds x past own in let least = ends.1 in omega arith);
        most = λ x past own. (let ends = end-bounds x past own in let least = ends.0 in let most = ends.2 in let below = ends.3 in omega arith);
        ones = weighted-constant chain weight 1 ∙ omega arith;
        mean = still ∙ (ap (λ m. word_count ^ n * m) part ∙ omega arith);
        top = refl;
        whole = refl;
        parts = range-of s v low high (under-weighted chain weight value low measured.above) (over-weighted chain weight value high measured.below);
      }
