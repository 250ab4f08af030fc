-- What is proved of paths, each a clause of this crate's functions.
use Rattle.std.specs.Prelude.{◌≡◌, ℕ, ◌+◌, ◌*◌, ◌^◌, ◌≤◌, List}
use Rattle.psi_state.specs.declared.Outcome.{Outcome}
use Rattle.psi_path.specs.Path.{Path, function_after, state_at, state_of}
use Rattle.psi_law.specs.Counting.{Words}
use Rattle.psi_law.specs.Wheel.{word_count}
use Rattle.psi_law.specs.Chains.{Chain, IsBalanced}
use Rattle.psi_law.specs.Samples.{unmet, HasLaw}
use Rattle.psi_law_many.specs.Values.{IsMeasured, Score}
use Rattle.psi_law_paths.specs.Paths.{sample_at, HasPathMean, path_surplus, path_deficit}

-- samples of a chain, and paths whose word of time 1 stands at the place `first`
module _ (chain : Chain) (sample : Words → Outcome) (first : ℕ) where
  -- at each time of a path its state has the law of weights that balance, as the sample has (Propp and Wilson 1996): a path that begins in a sample is stationary
  abbrev pub PathIsStationary : Type 0
  PathIsStationary = (weight : List ℕ → ℕ) (steps k : ℕ) → IsBalanced chain weight → k ≤ steps → HasLaw (sample_at chain sample first k) (first + steps) chain weight

  -- the sum along a path has the mean by weights that balance
  abbrev pub PathHasMean : Type 0
  PathHasMean = (weight value : List ℕ → ℕ) (low high steps : ℕ) → IsMeasured chain weight value low high → HasPathMean chain sample first weight value low high steps

  -- a claim about two scores holds of how far the sum along a path is above that of low and below that of high
  abbrev pub PathHas : (ℕ → Score → Score → Type 0) → Type 0
  PathHas Claim = (weight value : List ℕ → ℕ) (low high steps : ℕ) → IsMeasured chain weight value low high
      → Claim (first + steps) (path_surplus chain sample first weight value low high steps) (path_deficit chain sample first weight value low high steps)

  -- the paths whose sample isn't met have the share that such samples have among the pasts of n words
  abbrev pub UnmetAsSamples : ℕ → Type 0
  UnmetAsSamples n = (steps k : ℕ) → unmet (sample_at chain sample first k) (first + steps) * word_count ^ n ≡ unmet sample n * word_count ^ (first + steps)

  -- the state of the sample at time k is that of the path that is walked, under the same words
  abbrev pub IsWalked : (Words → List ℕ → Path) → Type 0
  IsWalked path = (words : Words) (start : List ℕ) (k : ℕ) → state_of (path words start) k ≡ state_at (function_after first chain.functions chain.rates words) k start
