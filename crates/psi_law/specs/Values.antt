-- What the command `reward` prints, counted: how many pasts give which value.
use Rattle.std.specs.Prelude.{◌≡◌, ℕ, ℤ, ◌+◌, ◌*◌, ◌^◌, ◌≤◌, List, filter, Bool, true, false}
use Rattle.std.specs.List.{sum_by}
use Rattle.std.specs.Ordering.{int_eq}
use Rattle.psi_state.specs.declared.Outcome.{Outcome}
use Rattle.psi_state.specs.declared.Outcome.TheVariants.{Met, NotMet}
use Rattle.psi_state.specs.Members.{In}
use Rattle.psi_reward.specs.declared.kinds.RewardKind.{RewardKind}
use Rattle.psi_reward.specs.Worth.{worth_of}
use Rattle.psi_rate.specs.Composition.{function_at}
use Rattle.psi_couple.specs.declared.answers.Valued.{Valued}
use Rattle.psi_couple.specs.declared.answers.Valued.TheVariants.{At, NotAt}
use Rattle.psi_couple.specs.Valuing.{value_at, valued_within}
use Rattle.psi_net_model.specs.Network.{Network, caps_of, rates_of, functions_of}
use Rattle.psi_law.specs.Counting.{Words, count_pasts}
use Rattle.psi_law.specs.Wheel.{word_count}
use Rattle.psi_law.specs.Chains.{Chain, end_of, whole, IsBalanced}

-- the first value of a reward under the words of a past: what the command `reward` prints, of the words of the seed and the stream
abbrev pub network_value : Network → RewardKind → Words → Valued
network_value net kind past = valued_within (value_at (worth_of kind) net.split (function_at (functions_of net) (rates_of net) past) (caps_of net)) net.limit

-- whether there is a value, and it is v
abbrev pub is_value : ℤ → Valued → Bool
is_value v (At horizon value) = int_eq value v
is_value v (NotAt limit) = false

-- whether there is none
abbrev pub is_unvalued : Valued → Bool
is_unvalued (At horizon value) = false
is_unvalued (NotAt limit) = true

-- the weight of the states that have the value v
abbrev pub weight_valued : Chain → (List ℕ → ℕ) → (List ℕ → ℤ) → ℤ → ℕ
weight_valued chain weight value v = sum_by weight (filter (λ x. int_eq (value x) v) chain.states)

-- the answer of each past, of which n words count
module _ (answer : Words → Valued) (n : ℕ) where
  -- how many pasts give the value v
  abbrev pub valued_at : ℤ → ℕ
  valued_at v = count_pasts word_count n (λ past. is_value v (answer past))

  -- how many pasts give none
  abbrev pub unvalued : ℕ
  unvalued = count_pasts word_count n (λ past. is_unvalued (answer past))

  -- of all weight, the part of the states with a value is at least the part of the pasts that give it, and at most this with the part of those that give none
  pub record HasValueLaw (chain : Chain) (weight : List ℕ → ℕ) (value : List ℕ → ℤ) : Type 0 where
    pub least : (v : ℤ) → whole chain weight * valued_at v ≤ weight_valued chain weight value v * word_count ^ n
    pub most : (v : ℤ) → weight_valued chain weight value v * word_count ^ n ≤ whole chain weight * (valued_at v + unvalued)

  -- the answers have the law of weights that balance
  abbrev pub BalanceIsValueLaw : Chain → (List ℕ → ℤ) → Type 0
  BalanceIsValueLaw chain value = (weight : List ℕ → ℕ) → IsBalanced chain weight → HasValueLaw chain weight value

  -- where the answer of a past is a value, the run of every state from n steps before time zero on ends with this value
  pub record ReachesValue (chain : Chain) (value : List ℕ → ℤ) : Type 0 where
    pub each : (past : Words) (x : List ℕ) → In x chain.states → (t : ℕ) (v : ℤ) → answer past ≡ At t v → value (end_of chain past n x) ≡ v

-- a value and a sample agree: where the sample is met, there is a value, that of its state, at a horizon that is not greater
abbrev pub AgreesValued : (List ℕ → ℤ) → Valued → Outcome → Type 0
AgreesValued value (At horizon v) (Met met state) = (v ≡ value state) × (horizon ≤ met)
AgreesValued value (NotAt limit) (Met met state) = ⊥
AgreesValued value valued (NotMet limit) = Unit {0}
