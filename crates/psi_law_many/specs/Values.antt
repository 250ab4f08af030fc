-- The values of samples, and scores of pasts that bound a mean from one side.
use Rattle.std.specs.Prelude.{ℕ, ◌+◌, ◌-◌, ◌*◌, ◌≤◌, List}
use Rattle.std.specs.List.{sum_by}
use Rattle.psi_state.specs.declared.Outcome.{Outcome}
use Rattle.psi_state.specs.declared.Outcome.TheVariants.{Met, NotMet}
use Rattle.psi_state.specs.Members.{In}
use Rattle.psi_law.specs.Counting.{Words}
use Rattle.psi_law.specs.Chains.{Chain, whole, weighted, IsBalanced}

-- the value of the state in which a sample coalesced, and another number where it did not coalesce
abbrev pub value_or : ℕ → (List ℕ → ℕ) → Outcome → ℕ
value_or other value (Met t x) = value x
value_or other value (NotMet l) = other

-- the sum of the values of the samples of some pasts, with another number for each sample that did not coalesce
abbrev pub sum_or : ℕ → (List ℕ → ℕ) → (Words → Outcome) → List Words → ℕ
sum_or other value sample pasts = sum_by (λ past. value_or other value (sample past)) pasts

-- weights that balance, and a value of each state from low to high
pub record IsMeasured (chain : Chain) (weight value : List ℕ → ℕ) (low high : ℕ) : Type 0 where
  pub balanced : IsBalanced chain weight
  pub above : (x : List ℕ) → In x chain.states → low ≤ value x
  pub below : (x : List ℕ) → In x chain.states → value x ≤ high

-- a score of each past, from 0 to top, and the mean that it is compared with: part of whole
pub record Score : Type 0 where
  pub score : Words → ℕ
  pub top : ℕ
  pub part : ℕ
  pub whole : ℕ

-- samples of a chain whose states have weights, and values from low to high
module _ (sample : Words → Outcome) (chain : Chain) (weight value : List ℕ → ℕ) (low high : ℕ) where
  -- how far the value of a sample is above low, and the mean by the weights of this; a sample that did not coalesce counts as low
  abbrev pub surplus : Score
  surplus = record {
    score = λ past. value_or low value (sample past) - low;
    top = high - low;
    part = weighted chain weight value - low * whole chain weight;
    whole = whole chain weight;
  }

  -- how far it is below high, and the mean of this; a sample that did not coalesce counts as high
  abbrev pub deficit : Score
  deficit = record {
    score = λ past. high - value_or high value (sample past);
    top = high - low;
    part = high * whole chain weight - weighted chain weight value;
    whole = whole chain weight;
  }

-- the sum of two scores under the same past, and of their means
abbrev pub added : Score → Score → Score
added s t = record {
  score = λ past. s.score past + t.score past;
  top = s.top + t.top;
  part = s.part * t.whole + t.part * s.whole;
  whole = s.whole * t.whole;
}
