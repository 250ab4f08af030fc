-- Lists of pasts with a sample that did not coalesce (the union bound).
use Rattle.std.specs.Prelude.{ℕ, zero, suc, ◌+◌, ◌*◌, ◌^◌, ◌≤◌, List, ◌∷◌}
use Rattle.std.specs.List.{list_any}
use Rattle.std.proofs.Common.{arith}
use Rattle.std.proofs.Math.Nat.{pow-suc, mul-le-mul_right}
use Rattle.psi_state.specs.declared.Outcome.{Outcome}
use Rattle.psi_law.specs.Counting.{Words, sum_pasts}
use Rattle.psi_law.specs.Wheel.{word_count}
use Rattle.psi_law.specs.Chains.{Chain}
use Rattle.psi_law.specs.Samples.{is_unmet, unmet}
use Rattle.psi_law.proofs.SumsLemmas.{one_if, sum-times, sum_pasts-is, sum-constant, pasts-constant}
use Rattle.psi_law_many.specs.Lists.{sum_lists}
use Rattle.psi_law_many.specs.Means.{some_unmet}
use Rattle.psi_law_many.specs.Statements.{UnmetAdds}
use Rattle.psi_law_many.proofs.ListsLemmas.{sum_lists-is, lists-ones, lists-power, either}

-- where one of several did not coalesce, the first did not or one of the others: one past before each list
module _ (sample : Words → Outcome) (n k : ℕ) where
  own : Words → ℕ
  own past = one_if (is_unmet (sample past))

  rest : List Words → ℕ
  rest pasts = one_if (list_any (λ past. is_unmet (sample past)) pasts)

  lists-with : (past : Words) → sum_lists word_count n k (λ pasts. rest (past ∷ pasts)) ≤ (word_count ^ n) ^ k * own past + some_unmet sample n k
  unfolding own rest
  lists-with past =
      let lists-is = sum_lists-is word_count n k in
      let order = lists-is.order (λ pasts. rest (past ∷ pasts)) (λ pasts. own past + rest pasts)
      (λ pasts. either (is_unmet (sample past)) (list_any (λ p. is_unmet (sample p)) pasts)) in
      let more = lists-is.more (λ pasts. own past) rest in
      let constant = rw (lists-ones word_count n k) at (sum-constant (sum_lists word_count n k) lists-is (own past)) in
      omega arith

  some-step : some_unmet sample n (suc k) ≤ (word_count ^ n) ^ k * unmet sample n + some_unmet sample n k * word_count ^ n
  unfolding own rest
  some-step =
      let pasts-is = sum_pasts-is word_count n in
      let all = (word_count ^ n) ^ k in
      let order = pasts-is.order (λ past. sum_lists word_count n k (λ pasts. rest (past ∷ pasts))) (λ past. all * own past + some_unmet sample n k) lists-with in
      let more = pasts-is.more (λ past. all * own past) (λ past. some_unmet sample n k) in
      let first = sum-times (sum_pasts word_count n) pasts-is all own in
      let constant = pasts-constant word_count n (some_unmet sample n k) in
      omega arith

some-adds : (sample : Words → Outcome) (n k : ℕ) → some_unmet sample n k * word_count ^ n ≤ k * unmet sample n * (word_count ^ n) ^ k
some-adds sample n zero = omega arith
some-adds sample n (suc k) =
    let w = word_count ^ n in
    let step = mul-le-mul_right w (some-step sample n k) in
    let rest = mul-le-mul_right w (some-adds sample n k) in
    rw (pow-suc w k) (omega arith)

pub unmet-adds : (chain : Chain) (sample : Words → Outcome) (n : ℕ) → UnmetAdds chain sample n
unmet-adds chain sample n = λ k.
    rw (lists-power word_count n k) at (some-adds sample n k)
