-- What is proved of many samples, each a clause of this crate's functions.
use Rattle.std.specs.Prelude.{ℕ, ◌*◌, ◌^◌, ◌≤◌, List}
use Rattle.psi_state.specs.declared.Outcome.{Outcome}
use Rattle.psi_state.specs.Members.{In}
use Rattle.psi_law.specs.Counting.{Words}
use Rattle.psi_law.specs.Wheel.{word_count}
use Rattle.psi_law.specs.Chains.{Chain, whole, IsBalanced}
use Rattle.psi_law.specs.Elimination.{stationary_weight}
use Rattle.psi_law.specs.Samples.{unmet}
use Rattle.psi_law_many.specs.Values.{IsMeasured, Score, surplus, deficit, added}
use Rattle.psi_law_many.specs.Means.{IsNear, some_unmet}
use Rattle.psi_law_many.specs.Tails.{IsTailed}
use Rattle.psi_law_many.specs.Quantiles.{HasQuantiles}

-- large totals of either score are rare
abbrev pub HasTails : ℕ → Score → Score → Type 0
HasTails n s t = IsTailed n s × IsTailed n t

-- samples of a chain, under pasts of n words
module _ (chain : Chain) (sample : Words → Outcome) (n : ℕ) where
  -- the weights that state elimination finds measure every value from low to high, and their sum is not 0: what is proved of weights that balance holds of a stationary distribution
  abbrev pub StationaryIsMeasured : Type 0
  StationaryIsMeasured = (value : List ℕ → ℕ) (low high : ℕ) → ((x : List ℕ) → In x chain.states → low ≤ value x) → ((x : List ℕ) → In x chain.states → value x ≤ high)
      → IsMeasured chain (stationary_weight chain) value low high × (1 ≤ whole chain (stationary_weight chain))

  -- the mean of k samples is near the mean by weights that balance
  abbrev pub BalanceIsNear : Type 0
  BalanceIsNear = (weight value : List ℕ → ℕ) (low high : ℕ) → IsMeasured chain weight value low high → IsNear sample n chain weight value low high

  -- a claim about two scores holds of how far values are above low and of how far they are below high, and so of the mean by weights that balance
  abbrev pub BalanceHas : (ℕ → Score → Score → Type 0) → Type 0
  BalanceHas Claim = (weight value : List ℕ → ℕ) (low high : ℕ) → IsMeasured chain weight value low high
      → Claim n (surplus sample chain weight value low high) (deficit sample chain weight value low high)

  -- quantiles by weights that balance are between values of the samples
  abbrev pub BalanceHasQuantiles : Type 0
  BalanceHasQuantiles = (weight value : List ℕ → ℕ) → IsBalanced chain weight → HasQuantiles sample n chain weight value

  -- the share of the lists of k pasts with a sample that did not coalesce is at most k times the share of such pasts
  abbrev pub UnmetAdds : Type 0
  UnmetAdds = (k : ℕ) → some_unmet sample n k * word_count ^ n ≤ k * unmet sample n * word_count ^ (n * k)

  -- a claim about two scores holds of the difference of a value of this chain's sample and one of another chain's sample under the same past (common random numbers): of how far the difference is above its least, and of how far it is below its greatest
  abbrev pub DifferenceHas : (ℕ → Score → Score → Type 0) → Chain → (Words → Outcome) → Type 0
  DifferenceHas Claim other opposed = (weight value : List ℕ → ℕ) (low high : ℕ) (weight2 value2 : List ℕ → ℕ) (low2 high2 : ℕ)
      → IsMeasured chain weight value low high → IsMeasured other weight2 value2 low2 high2
      → Claim n (added (surplus sample chain weight value low high) (deficit opposed other weight2 value2 low2 high2))
      (added (deficit sample chain weight value low high) (surplus opposed other weight2 value2 low2 high2))
