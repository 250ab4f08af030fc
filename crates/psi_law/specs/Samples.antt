-- Counting the pasts by the samples that they give, and those after which not all states have met.
use Rattle.std.specs.Prelude.{◌≡◌, ℕ, ℤ, pos, ◌+ℤ◌, ◌*ℤ◌, ◌≤ℤ◌, ◌+◌, ◌*◌, ◌^◌, ◌≤◌, List, Bool, true, false, Option, is_none}
use Rattle.psi_state.specs.declared.Outcome.{Outcome}
use Rattle.psi_state.specs.declared.Outcome.TheVariants.{Met, NotMet}
use Rattle.psi_state.specs.Members.{In}
use Rattle.psi_rate.specs.Composition.{function_at}
use Rattle.psi_rate.specs.Outcomes.{meeting_from}
use Rattle.psi_law.specs.Counting.{Words, signed, sum_pasts, count_pasts}
use Rattle.psi_law.specs.Wheel.{word_count}
use Rattle.psi_law.specs.Chains.{Chain, is_same, end_of, whole, weighted, IsStationaryDistribution}

-- whether an outcome is met in s
abbrev pub is_met_in : List ℕ → Outcome → Bool
is_met_in s (Met t x) = is_same x s
is_met_in s (NotMet l) = false

-- whether an outcome isn't met
abbrev pub is_unmet : Outcome → Bool
is_unmet (Met t x) = false
is_unmet (NotMet l) = true

-- the value of the state in which an outcome is met, and 0 where it isn't met
abbrev pub value_met : (List ℕ → ℕ) → Outcome → ℕ
value_met value (Met t x) = value x
value_met value (NotMet l) = 0

-- where the sample of a past is met, the run of every state from n steps before time zero on ends in the state in which it is met
pub record Reaches (chain : Chain) (sample : Words → Outcome) (n : ℕ) : Type 0 where
  pub each : (past : Words) (x : List ℕ) → In x chain.states → (t : ℕ) (y : List ℕ) → sample past ≡ Met t y → end_of chain past n x ≡ y

-- the sample of each past, of which n words count
module _ (sample : Words → Outcome) (n : ℕ) where
  -- how many pasts give a sample that is met in s
  abbrev pub met_in : List ℕ → ℕ
  met_in s = count_pasts word_count n (λ past. is_met_in s (sample past))

  -- how many pasts give a sample that isn't met
  abbrev pub unmet : ℕ
  unmet = count_pasts word_count n (λ past. is_unmet (sample past))

  -- the sum, over the pasts whose sample is met, of the value of the state in which it is met
  abbrev pub sum_met : (List ℕ → ℕ) → ℕ
  sum_met value = sum_pasts word_count n (λ past. value_met value (sample past))

  -- each state's part of all weight is at least the part of the pasts whose sample is met in it, and at most this with the part of those whose sample isn't met (Propp and Wilson 1996)
  pub record HasLaw (chain : Chain) (weight : List ℕ → ℕ) : Type 0 where
    pub least : (s : List ℕ) → In s chain.states → whole chain weight * met_in s ≤ weight s * word_count ^ n
    pub most : (s : List ℕ) → In s chain.states → weight s * word_count ^ n ≤ whole chain weight * (met_in s + unmet)

  -- the chain has a stationary distribution, and the samples have its law
  pub record HasStationaryLaw (chain : Chain) : Type 0 where
    pub weight : List ℕ → ℕ
    pub distribution : IsStationaryDistribution chain weight
    pub law : HasLaw chain weight

  -- the mean of a value by the weights is that over the pasts, with a value from low to high for each past whose sample isn't met
  pub record HasMean (chain : Chain) (weight value : List ℕ → ℕ) (low high : ℕ) : Type 0 where
    pub least : whole chain weight * (sum_met value + low * unmet) ≤ weighted chain weight value * word_count ^ n
    pub most : weighted chain weight value * word_count ^ n ≤ whole chain weight * (sum_met value + high * unmet)

  -- as `HasMean`, of values that may be negative
  pub record HasSignedMean (chain : Chain) (weight : List ℕ → ℕ) (value : List ℕ → ℤ) (low high : ℤ) : Type 0 where
    pub least : (pos (whole chain weight) *ℤ (signed sum_met value +ℤ (low *ℤ pos unmet))) ≤ℤ (signed (weighted chain weight) value *ℤ pos (word_count ^ n))
    pub most : (signed (weighted chain weight) value *ℤ pos (word_count ^ n)) ≤ℤ (pos (whole chain weight) *ℤ (signed sum_met value +ℤ (high *ℤ pos unmet)))

-- whether a past leaves states apart: the runs from all states of a chain, from n steps before time zero on, end in more than one state, and so haven't coalesced (Propp and Wilson 1996)
abbrev pub are_apart : Chain → ℕ → Words → Bool
are_apart chain n past = is_none (meeting_from (function_at chain.functions chain.rates past) chain.states n)

-- how many pasts of n words leave states apart
abbrev pub apart : Chain → ℕ → ℕ
apart chain n = count_pasts word_count n (are_apart chain n)

-- how many pasts of n words have a run of n steps that doesn't end with one state, by how the run of each past ends: that haven't coalesced (Propp and Wilson 1996)
abbrev pub uncoalesced : (Words → ℕ → Option (List ℕ)) → ℕ → ℕ
uncoalesced ending n = count_pasts word_count n (λ past. is_none (ending past n))
