-- Where some past couples, weights that balance have the same parts: both are near the counts of the ends of long runs.
use Rattle.std.specs.Prelude.{◌≡◌, ℕ, zero, suc, ◌+◌, ◌-◌, ◌*◌, ◌^◌, ◌<◌, ◌≤◌, List}
use Rattle.std.proofs.Common.{arith}
use Rattle.std.proofs.Math.Nat.{pow-zero, pow-succ', mul-le-mul_left}
use Rattle.std.proofs.lemmas.Grind.{common_steps}
use Rattle.psi_law.specs.Counting.{distance}
use Rattle.psi_law.specs.Wheel.{word_count}
use Rattle.psi_law.specs.Chains.{Chain, IsChain, whole, pasts_between, IsBalanced}
use Rattle.psi_law.specs.Samples.{are_apart, apart}
use Rattle.psi_law.specs.Statements.{ApartFalls, BalanceIsOne}
use Rattle.psi_law.proofs.SumsLemmas.{at_most_one, sum_by-member}
use Rattle.psi_law.proofs.PowersLemmas.{pow-times, less-times, vanishes}
use Rattle.psi_law.proofs.ChainLemmas.{Own}
use Rattle.psi_law.proofs.FallsLemmas.{apart-falls}
use Rattle.psi_law.proofs.MixingLemmas.{chain-mixes}

-- so many words, j times
apart-power : (chain : Chain) → ApartFalls chain → (n j : ℕ) → apart chain (j * n) ≤ apart chain n ^ j
apart-power chain falls n zero = (let z : zero * n ≡ 0 = omega arith in rw (z, pow-zero (apart chain n)) (at_most_one (are_apart chain 0 (λ k. 0))))
apart-power chain falls n (suc j) = grind (arith, common_steps, mul-le-mul_left, pow-succ', (apart-power chain falls n j))

-- weights x and y, of all and rest, are near the same count b of p ends, but for u
parts-near : (x y all rest b p u : ℕ) → x * p ≤ all * b + 2 * (all * u) → rest * b ≤ y * p + 2 * (rest * u) → x * rest * p ≤ y * all * p + 4 * (all * rest) * u
parts-near x y all rest b p u first second = (let one = mul-le-mul_left rest first in let two = mul-le-mul_left all second in omega arith)

module _ (chain : Chain) (is : IsChain chain) (s : List ℕ) (own : Own chain s) where
  -- how near a weight is to the count of the ends, from any start
  near-at : (weight : List ℕ → ℕ) (k : ℕ) → IsBalanced chain weight
      → distance (whole chain weight * pasts_between chain k s s) (weight s * word_count ^ k) ≤ 2 * (whole chain weight * apart chain k)
  near-at weight k balanced =
      let all = chain-mixes chain is weight k s balanced own in
      let one = sum_by-member chain.states (λ y. distance (whole chain weight * pasts_between chain k s y) (weight y * word_count ^ k)) s own in omega arith

  -- one weight's part is at most the other's
  part-under : (weight other : List ℕ → ℕ) (n : ℕ) → IsBalanced chain weight → IsBalanced chain other → apart chain n < word_count ^ n
      → weight s * whole chain other ≤ other s * whole chain weight
  part-under weight other n first second some =
      let all = whole chain weight in
      let rest = whole chain other in
      let u = apart chain n in
      let d = weight s * rest - other s * all in
      let none = vanishes d (4 * (all * rest)) u (word_count ^ n) some
      (λ j.
      (let k = j * n in
      let p = word_count ^ k in
      let b = pasts_between chain k s s in
      let one = near-at weight k first in
      let two = near-at other k second in
      let both = parts-near (weight s) (other s) all rest b p (apart chain k) (omega arith) (omega arith) in
      let fall : 4 * (all * rest) * apart chain k ≤ 4 * (all * rest) * u ^ j = mul-le-mul_left (4 * (all * rest)) (apart-power chain (apart-falls chain is.finite) n j) in
      let left : d * p ≤ 4 * (all * rest) * u ^ j = less-times (weight s * rest) (other s * all) p (4 * (all * rest) * u ^ j) (omega arith) in
      rw (← pow-times word_count n j) left)) in
      omega arith

pub balance-one : (chain : Chain) → IsChain chain → BalanceIsOne chain
balance-one chain is = grind (arith, common_steps, part-under)
