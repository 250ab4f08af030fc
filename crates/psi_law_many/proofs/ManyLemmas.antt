-- All statements of the samples of a chain together, and of the differences of two chains.
use Rattle.std.specs.Prelude.{◌≡◌, ℕ, ◌+◌, ◌-◌, ◌≤◌}
use Rattle.std.proofs.Common.{ap, ◌∙◌, arith}
use Rattle.psi_state.specs.declared.Outcome.{Outcome}
use Rattle.psi_rate.specs.Composition.{Functions, function_at, compose}
use Rattle.psi_rate.proofs.CompositionLemmas.{compose-keeps}
use Rattle.psi_rate.proofs.FunctionsLemmas.{function_at-keeping}
use Rattle.psi_law.specs.Counting.{Words}
use Rattle.psi_law.specs.Chains.{Chain, IsChain}
use Rattle.psi_law.specs.Samples.{Reaches}
use Rattle.psi_law.proofs.ChainLemmas.{Own, compose-append}
use Rattle.psi_law.proofs.ExistenceLemmas.{elimination-stationary}
use Rattle.psi_law_many.specs.Values.{Score, surplus, deficit, added}
use Rattle.psi_law_many.specs.Near.{HasNear}
use Rattle.psi_law_many.specs.Intervals.{HasIntervals}
use Rattle.psi_law_many.specs.Bets.{HasBets}
use Rattle.psi_law_many.specs.Statements.{HasTails, StationaryIsMeasured, BalanceIsNear, BalanceHas, BalanceHasQuantiles, UnmetAdds, DifferenceHas}
use Rattle.psi_law_many.proofs.UnmetLemmas.{unmet-adds}
use Rattle.psi_law_many.proofs.ScoreLemmas.{IsScore}
use Rattle.psi_law_many.proofs.BoundsLemmas.{first-score, exchanged, both-bounds, sample-bounds}
use Rattle.psi_law_many.proofs.IntervalLemmas.{tailed, has-intervals}
use Rattle.psi_law_many.proofs.BetsLemmas.{has-bets}
use Rattle.psi_law_many.proofs.QuantileLemmas.{balance-quantiles}
use Rattle.psi_law_many.proofs.NearLemmas.{has-near, balance-near}

-- a claim that holds of each two scores
abbrev HoldsOfScores : (ℕ → Score → Score → Type 0) → Type 0
HoldsOfScores Claim = (n : ℕ) (s t : Score) → IsScore n s → IsScore n t → Claim n s t

pub has-tails : HoldsOfScores HasTails
has-tails = λ n s t first last. (tailed n s first, tailed n t last)

stationary-measured : (chain : Chain) (sample : Words → Outcome) (n : ℕ) → IsChain chain → StationaryIsMeasured chain sample n
stationary-measured chain sample n is = λ value low high above below.
    (let found = elimination-stationary chain is.finite in let some = found.some in
    (record { balanced = found.balanced; above = above; below = below }, omega arith))

-- holds of what values are above low and below high
balance-has : (Claim : ℕ → Score → Score → Type 0) → HoldsOfScores Claim → (chain : Chain) (sample : Words → Outcome) (n : ℕ) → IsChain chain → Reaches chain sample n → BalanceHas chain sample n Claim
balance-has Claim holds chain sample n is reaches = λ weight value low high measured.
    (let bounds = sample-bounds is reaches measured in
    holds n (surplus sample chain weight value low high) (deficit sample chain weight value low high) (first-score bounds) (first-score (exchanged bounds)))

pub record AreMany (chain : Chain) (sample : Words → Outcome) (n : ℕ) : Type 0 where
  pub stationary : StationaryIsMeasured chain sample n
  pub near : BalanceIsNear chain sample n
  pub tails : BalanceHas chain sample n HasTails
  pub intervals : BalanceHas chain sample n HasIntervals
  pub bets : BalanceHas chain sample n HasBets
  pub quantiles : BalanceHasQuantiles chain sample n
  pub unmet : UnmetAdds chain sample n

pub are-many : {chain : Chain} {sample : Words → Outcome} {n : ℕ} → IsChain chain → Reaches chain sample n → AreMany chain sample n
are-many {chain} {sample} {n} is reaches = record {
  stationary = stationary-measured chain sample n is;
  near = balance-near chain sample n is reaches;
  tails = balance-has HasTails has-tails chain sample n is reaches;
  intervals = balance-has HasIntervals has-intervals chain sample n is reaches;
  bets = balance-has HasBets has-bets chain sample n is reaches;
  quantiles = balance-quantiles chain sample n is reaches;
  unmet = unmet-adds chain sample n;
}

-- ---- two chains under the same past

-- a sample is reached from earlier states too
pub reaches-within : (chain : Chain) (sample : Words → Outcome) (n m : ℕ) → IsChain chain → Reaches chain sample n → n ≤ m → Reaches chain sample m
reaches-within chain sample n m is reaches within = record {
  each = λ past x own t y met.
      (let f = function_at chain.functions chain.rates past in
      let earlier : Functions = λ i. f (n + i) in
      let keeps = function_at-keeping (Own chain) chain.functions chain.rates past is.finite.keeps in
      let e : m ≡ n + (m - n) = omega arith in
      ap (λ k. compose f k x) e
      ∙ (compose-append f n (m - n) x
      ∙ reaches.each past (compose earlier (m - n) x) (compose-keeps (Own chain) earlier (record { each = λ i. keeps.each (n + i) }) (m - n) x own) t y met));
}

-- under pasts that are long enough for the samples of both
pub record AreDifferent (chain : Chain) (sample : Words → Outcome) (a : ℕ) (other : Chain) (opposed : Words → Outcome) (b : ℕ) : Type 0 where
  pub near : (n : ℕ) → a ≤ n → b ≤ n → DifferenceHas chain sample n HasNear other opposed
  pub tails : (n : ℕ) → a ≤ n → b ≤ n → DifferenceHas chain sample n HasTails other opposed
  pub intervals : (n : ℕ) → a ≤ n → b ≤ n → DifferenceHas chain sample n HasIntervals other opposed
  pub bets : (n : ℕ) → a ≤ n → b ≤ n → DifferenceHas chain sample n HasBets other opposed

module _ {chain : Chain} {sample : Words → Outcome} {other : Chain} {opposed : Words → Outcome} {a b : ℕ} (is : IsChain chain) (first : Reaches chain sample a) (also : IsChain other)
    (last : Reaches other opposed b) where
  difference-has : (Claim : ℕ → Score → Score → Type 0) → HoldsOfScores Claim → (n : ℕ) → a ≤ n → b ≤ n → DifferenceHas chain sample n Claim other opposed
  difference-has Claim holds n long longer = λ weight value low high weight2 value2 low2 high2 measured compared.
      (let bounds = both-bounds (sample-bounds is (reaches-within chain sample a n is first long) measured) (exchanged (sample-bounds also (reaches-within other opposed b n also last longer) compared)) in
      holds n (added (surplus sample chain weight value low high) (deficit opposed other weight2 value2 low2 high2))
      (added (deficit sample chain weight value low high) (surplus opposed other weight2 value2 low2 high2)) (first-score bounds) (first-score (exchanged bounds)))

  pub are-different : AreDifferent chain sample a other opposed b
  are-different = record {
    near = λ n long longer weight value low high weight2 value2 low2 high2 measured compared.
        has-near (both-bounds (sample-bounds is (reaches-within chain sample a n is first long) measured) (exchanged (sample-bounds also (reaches-within other opposed b n also last longer) compared)));
    tails = difference-has HasTails has-tails;
    intervals = difference-has HasIntervals has-intervals;
    bets = difference-has HasBets has-bets;
  }
