-- Paths that begin in samples, over all lists of the random words of both.
use Rattle.std.specs.Prelude.{ℕ, suc, ◌+◌, ◌-◌, ◌*◌, ◌^◌, ◌≤◌, List}
use Rattle.psi_state.specs.declared.Outcome.{Outcome}
use Rattle.psi_state.specs.declared.Outcome.TheVariants.{Met, NotMet}
use Rattle.psi_path.specs.Path.{function_after, state_at}
use Rattle.psi_path.specs.Sums.{sum_until}
use Rattle.psi_law.specs.Counting.{Words, sum_pasts}
use Rattle.psi_law.specs.Wheel.{word_count}
use Rattle.psi_law.specs.Chains.{Chain, whole, weighted}
use Rattle.psi_law_many.specs.Values.{value_or, Score}

-- what a function makes of the state of an outcome
abbrev pub outcome_by : (List ℕ → List ℕ) → Outcome → Outcome
outcome_by f (Met t x) = Met t (f x)
outcome_by f (NotMet l) = NotMet l

-- samples of a chain, and paths whose word of time 1 stands at the place `first`; the words of a sample stand at places below it
module _ (chain : Chain) (sample : Words → Outcome) (first : ℕ) where
  -- the sample as it is at time k: the state at time k of the path that begins in the sample's state
  abbrev pub sample_at : ℕ → Words → Outcome
  sample_at k words = outcome_by (state_at (function_after first chain.functions chain.rates words) k) (sample words)

  -- the sum of a value along the path of so many steps, which has the states at the times 0, 1, .., steps; with another number for each of them where the sample isn't met
  abbrev pub path_sum : ℕ → (List ℕ → ℕ) → ℕ → Words → ℕ
  path_sum other value steps words = sum_until (λ k. value_or other value (sample_at k words)) steps

  -- over the lists of all words of the sample and of so many steps: the sum along the path has the mean of the value by the weights, once for each of its steps + 1 states, with a value from low to high for each state of a path whose sample isn't met
  pub record HasPathMean (weight value : List ℕ → ℕ) (low high steps : ℕ) : Type 0 where
    pub least : whole chain weight * sum_pasts word_count (first + steps) (path_sum low value steps) ≤ suc steps * weighted chain weight value * word_count ^ (first + steps)
    pub most : suc steps * weighted chain weight value * word_count ^ (first + steps) ≤ whole chain weight * sum_pasts word_count (first + steps) (path_sum high value steps)

  -- how far the sum along the path is above that of low, and the mean of this; a path whose sample isn't met counts as low
  abbrev pub path_surplus : (weight value : List ℕ → ℕ) (low high steps : ℕ) → Score
  path_surplus weight value low high steps = record {
    score = path_sum 0 (λ x. value x - low) steps;
    top = suc steps * (high - low);
    part = suc steps * weighted chain weight (λ x. value x - low);
    whole = whole chain weight;
  }

  -- how far it is below that of high, and the mean of this; a path whose sample isn't met counts as high
  abbrev pub path_deficit : (weight value : List ℕ → ℕ) (low high steps : ℕ) → Score
  path_deficit weight value low high steps = record {
    score = path_sum 0 (λ x. high - value x) steps;
    top = suc steps * (high - low);
    part = suc steps * weighted chain weight (λ x. high - value x);
    whole = whole chain weight;
  }
