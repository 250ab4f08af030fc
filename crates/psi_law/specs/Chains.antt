-- The Markov chain of a network, and weights of its states that balance.
use Rattle.std.specs.Prelude.{◌≡◌, ℕ, ◌*◌, ◌^◌, ◌<◌, List, length, filter, slice_index, slice_index_or, All, Bool, nat_eq}
use Rattle.std.specs.List.{sum_by}
use Rattle.std.specs.Cmp.Lexicographic.{pointwise}
use Rattle.psi_state.specs.Members.{In}
use Rattle.psi_state.specs.Ascending.{IsDistinct}
use Rattle.psi_rate.specs.Rates.{AreRates, total}
use Rattle.psi_rate.specs.Composition.{function_at, compose, Keeps}
use Rattle.psi_law.specs.Counting.{Words, sum_below, count_pasts}
use Rattle.psi_law.specs.Wheel.{word_count}

-- the functions of events, their rates, and the states: the Markov chain in continuous time whose events come with these rates, by a random mapping (Levin, Peres and Wilmer 2009)
pub record Chain : Type 0 where
  pub functions : List (List ℕ → List ℕ)
  pub rates : List ℕ
  pub states : List (List ℕ)

-- a finite chain: it has a state, no state stands twice in its list, and each function maps its states to its states
pub record IsFinite (chain : Chain) : Type 0 where
  pub some : (x : List ℕ) × In x chain.states
  pub distinct : IsDistinct chain.states
  pub keeps : All (Keeps (λ x. In x chain.states)) chain.functions

-- the chain of a network: a finite chain with a rate for each function, and the rates are those of a wheel
pub record IsChain (chain : Chain) : Type 0 where
  pub finite : IsFinite chain
  pub rated : AreRates chain.rates
  pub same_count : length chain.rates ≡ length chain.functions

-- the function of an event; idle, whose number is the count of the events, changes nothing
abbrev pub function_of : Chain → ℕ → List ℕ → List ℕ
function_of chain e = slice_index_or chain.functions e (λ x. x)

-- two states are the same
abbrev pub is_same : List ℕ → List ℕ → Bool
is_same x y = pointwise nat_eq x y

-- the state at time zero of the run that starts in x n steps before, under these words
abbrev pub end_of : Chain → Words → ℕ → List ℕ → List ℕ
end_of chain past n x = compose (function_at chain.functions chain.rates past) n x

-- how many pasts of n words lead from x to y
abbrev pub pasts_between : Chain → ℕ → List ℕ → List ℕ → ℕ
pasts_between chain n x y = count_pasts word_count n (λ past. is_same (end_of chain past n x) y)

-- a chain whose states have weights
module _ (chain : Chain) (weight : List ℕ → ℕ) where
  -- the sum of all weights
  abbrev pub whole : ℕ
  whole = sum_by weight chain.states

  -- the sum of a value over the states, each as often as its weight says
  abbrev pub weighted : (List ℕ → ℕ) → ℕ
  weighted value = sum_by (λ x. weight x * value x) chain.states

  -- the weight of the states that a function leads to y
  abbrev pub weight_to : (List ℕ → List ℕ) → List ℕ → ℕ
  weight_to f y = sum_by weight (filter (λ x. is_same (f x) y) chain.states)

  -- the weight that the events lead to y, each with its rate
  abbrev pub flow_to : List ℕ → ℕ
  flow_to y = sum_below (length chain.rates) (λ e. slice_index chain.rates e * weight_to (function_of chain e) y)

  -- the weights balance: at each state, what the events lead to it is what they lead away; the equations of the stationary law (Levin, Peres and Wilmer 2009)
  pub record IsBalanced : Type 0 where
    pub each : (y : List ℕ) → In y chain.states → flow_to y ≡ total chain.rates * weight y

  -- the weights are a stationary distribution in whole numbers: they balance, and their sum is not 0; a state's probability is its weight divided by the sum
  pub record IsStationaryDistribution : Type 0 where
    pub balanced : IsBalanced
    pub some : 0 < whole

  -- the weights are stationary: over all pasts of n words, as much weight is led to y as y has
  pub record IsStationary : Type 0 where
    pub each : (n : ℕ) (y : List ℕ) → In y chain.states → weighted (λ x. pasts_between chain n x y) ≡ weight y * word_count ^ n
