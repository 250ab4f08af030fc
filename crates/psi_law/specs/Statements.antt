-- What is proved of chains and their samples, each a clause of this crate's functions.
use Rattle.std.specs.Prelude.{◌≡◌, ℕ, suc, ℤ, ◌≤ℤ◌, ◌+◌, ◌*◌, ◌^◌, ◌<◌, ◌≤◌, List, Option}
use Rattle.std.specs.List.{sum_by}
use Rattle.psi_state.specs.declared.Outcome.{Outcome}
use Rattle.psi_state.specs.Members.{In}
use Rattle.psi_rate.specs.Outcomes.{outcome_within}
use Rattle.psi_law.specs.Counting.{Words, distance}
use Rattle.psi_law.specs.Wheel.{word_count}
use Rattle.psi_law.specs.Chains.{Chain, IsFinite, whole, pasts_between, IsBalanced, IsStationary, IsStationaryDistribution}
use Rattle.psi_law.specs.Elimination.{stationary_weight}
use Rattle.psi_law.specs.Samples.{unmet, HasLaw, HasMean, HasSignedMean, apart, uncoalesced}

-- every finite chain has a stationary distribution: the weights that elimination finds (Grassmann, Taksar and Heyman 1985)
abbrev pub EliminationIsStationary : Type 0
EliminationIsStationary = (chain : Chain) → IsFinite chain → IsStationaryDistribution chain (stationary_weight chain)

module _ (chain : Chain) where
  -- weights that balance are stationary
  abbrev pub BalanceStays : Type 0
  BalanceStays = (weight : List ℕ → ℕ) → IsBalanced chain weight → IsStationary chain weight

  -- of the pasts of n + k words, at most the product of those of n and of k words leave states apart: their share falls geometrically (Propp and Wilson 1996)
  abbrev pub ApartFalls : Type 0
  ApartFalls = (n k : ℕ) → apart chain (n + k) ≤ apart chain n * apart chain k

  -- where some past of n words couples, weights that balance are one but for a factor
  abbrev pub BalanceIsOne : Type 0
  BalanceIsOne = (weight other : List ℕ → ℕ) (n : ℕ) → IsBalanced chain weight → IsBalanced chain other → apart chain n < word_count ^ n
      → (s : List ℕ) → In s chain.states → weight s * whole chain other ≡ other s * whole chain weight

  -- it mixes as it couples: from each start, after n words, the counts of the ends and those of the weights are at a distance, summed over all states, of at most twice the
  -- number of the pasts that leave states apart (Levin, Peres and Wilmer 2009)
  abbrev pub MixesAsCoupled : Type 0
  MixesAsCoupled = (weight : List ℕ → ℕ) (n : ℕ) (x : List ℕ) → IsBalanced chain weight → In x chain.states
      → sum_by (λ y. distance (whole chain weight * pasts_between chain n x y) (weight y * word_count ^ n)) chain.states ≤ 2 * (whole chain weight * apart chain n)

  module _ (sample : Words → Outcome) (n : ℕ) where
    -- the samples have the law of weights that balance (Propp and Wilson 1996)
    abbrev pub BalanceIsLaw : Type 0
    BalanceIsLaw = (weight : List ℕ → ℕ) → IsBalanced chain weight → HasLaw sample n chain weight

    -- the samples have the mean, by weights that balance, of each value that is from low to high at every state
    abbrev pub BalanceIsMean : Type 0
    BalanceIsMean = (weight value : List ℕ → ℕ) (low high : ℕ) → IsBalanced chain weight
        → ((x : List ℕ) → In x chain.states → low ≤ value x) → ((x : List ℕ) → In x chain.states → value x ≤ high)
        → HasMean sample n chain weight value low high

    -- and so of each value that may be negative
    abbrev pub BalanceIsSignedMean : Type 0
    BalanceIsSignedMean = (weight : List ℕ → ℕ) (value : List ℕ → ℤ) (low high : ℤ) → IsBalanced chain weight
        → ((x : List ℕ) → In x chain.states → low ≤ℤ value x) → ((x : List ℕ) → In x chain.states → value x ≤ℤ high)
        → HasSignedMean sample n chain weight value low high

    -- as many pasts of n words give a sample that isn't met as leave states apart
    abbrev pub UnmetIsApart : Type 0
    UnmetIsApart = unmet sample n ≡ apart chain n

-- runs that end so under the words of a past, by their horizon
module _ (ending : Words → ℕ → Option (List ℕ)) where
  -- the samples with a limit
  abbrev pub samples_within : ℕ → Words → Outcome
  samples_within limit past = outcome_within (ending past) limit

  -- of the pasts of n + k words, at most the product of those of n and of k words have runs that haven't coalesced: their share falls geometrically (Propp and Wilson 1996)
  abbrev pub UncoalescedFalls : Type 0
  UncoalescedFalls = (n k : ℕ) → uncoalesced ending (n + k) ≤ uncoalesced ending n * uncoalesced ending k

  -- the samples that aren't met are those of the pasts whose longest run hasn't coalesced
  abbrev pub UnmetIsUncoalesced : Type 0
  UnmetIsUncoalesced = (limit : ℕ) → unmet (samples_within limit) (2 ^ limit) ≡ uncoalesced ending (2 ^ limit)

  -- with a limit that is greater by one, the number of the samples that aren't met is at most squared, as is that of all pasts
  abbrev pub LimitSquares : Type 0
  LimitSquares = (limit : ℕ) → unmet (samples_within (suc limit)) (2 ^ suc limit) ≤ unmet (samples_within limit) (2 ^ limit) * unmet (samples_within limit) (2 ^ limit)

-- pasts whose first n words are the same have the same sample, or another answer
abbrev pub LooksAtFirst : {A : Type 0} → (Words → A) → ℕ → Type 0
LooksAtFirst sample n = (past other : Words) → ((k : ℕ) → k < n → past k ≡ other k) → sample past ≡ sample other
