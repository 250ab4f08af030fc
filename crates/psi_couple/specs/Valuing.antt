-- One value before one state: the first horizon, by doubling (Propp and Wilson 1996), at which all states with which a run
-- ends have one value.
use Rattle.std.specs.Prelude.{◌≡◌, ℕ, suc, ℤ, ◌^◌, ◌≤◌, List, [], ◌∷◌, Option, Some, None, if◌then◌else◌}
use Rattle.std.specs.List.{list_all}
use Rattle.std.specs.Ordering.{int_eq}
use Rattle.psi_state.specs.State.{IsBelow}
use Rattle.psi_rate.specs.Composition.{Functions, compose}
use Rattle.psi_rate.specs.Doubling.{first_answer, HasNone, IsFirst}
use Rattle.psi_horizon.specs.Runs.{region_at}
use Rattle.psi_couple.specs.declared.answers.Valued.{Valued}
use Rattle.psi_couple.specs.declared.answers.Valued.TheVariants.{At, NotAt}

-- the value that all states of a list have, if it has a state and they have one value
abbrev pub common_value : (List ℕ → ℤ) → List (List ℕ) → Option ℤ
common_value value [] = None
common_value value (x ∷ xs) = if list_all (λ y. int_eq (value y) (value x)) xs then Some (value x) else None

-- the value that all states have with which the run of a horizon ends, if they have one
abbrev pub value_at : (List ℕ → ℤ) → ℕ → Functions → List ℕ → ℕ → Option ℤ
value_at value split f caps t = common_value value (region_at split f caps t).states

-- the first answer of a run, as that of a value
abbrev pub valued_of : ℕ → Option (ℕ × ℤ) → Valued
valued_of limit None = NotAt limit
valued_of limit (Some found) = At found.0 found.1

-- the first value of a run: its answer at the least of 1, 2, 4, .., 2^limit that has one
unfoldable pub valued_within : (ℕ → Option ℤ) → ℕ → Valued
valued_within run limit = valued_of limit (first_answer run limit)

-- there is a value at the least of 1, 2, 4, .., 2^limit at which the run has an answer, and it is that answer; there is none where no such horizon has one, and the limit is named
abbrev pub IsValued : (ℕ → Option ℤ) → ℕ → Valued → Type 0
IsValued run limit (At t v) = IsFirst run limit t v
IsValued run limit (NotAt l) = (l ≡ limit) × HasNone run (suc limit)

-- every state within the capacities, started t steps before time zero or earlier, has the value v at time zero
pub record IsValueReached (value : List ℕ → ℤ) (f : Functions) (caps : List ℕ) (t : ℕ) (v : ℤ) : Type 0 where
  pub each : (x : List ℕ) (earlier : ℕ) → IsBelow x caps → t ≤ earlier → value (compose f earlier x) ≡ v

-- where there is a value, every state that starts at its horizon or earlier has it at time zero
abbrev pub ReachesValued : (List ℕ → ℤ) → Functions → List ℕ → Valued → Type 0
ReachesValued value f caps (At t v) = IsValueReached value f caps t v
ReachesValued value f caps (NotAt l) = Unit {0}

-- and all states with which each run from its horizon on ends have it; where there is none, the states of no run of a horizon up to 2^limit, a power of two or not, have one value
abbrev pub DecidesValues : (List ℕ → ℤ) → ℕ → Functions → List ℕ → ℕ → Valued → Type 0
DecidesValues value split f caps limit (At t v) = (later : ℕ) → t ≤ later → value_at value split f caps later ≡ Some v
DecidesValues value split f caps limit (NotAt l) = (t : ℕ) → t ≤ 2 ^ limit → value_at value split f caps t ≡ None
