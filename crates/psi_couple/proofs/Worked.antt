-- The definitions on small inputs, worked out by hand and computed by the checker.
use Rattle.std.specs.Prelude.{◌≡◌, ℕ, ℤ, pos, List, [], ◌∷◌, Some, None, slice_index, nat_lt, if◌then◌else◌, refl}
use Rattle.psi_couple.specs.declared.answers.Coupled.TheVariants.{At, NotAt}
use Rattle.psi_couple.specs.Coupling.{coupled_within}
use Rattle.psi_rate.specs.Least.{least_answer}
use Rattle.psi_couple.specs.Valuing.{common_value}

-- what a state holds in its first queue
abbrev first : List ℕ → ℤ
first x = pos (slice_index x 0)

-- one value of two states, two values, and no state
one_value : common_value first ((1 ∷ 0 ∷ []) ∷ (1 ∷ 2 ∷ []) ∷ []) ≡ Some (pos 1)
one_value = refl

two_values : common_value first ((1 ∷ 0 ∷ []) ∷ (1 ∷ 2 ∷ []) ∷ (0 ∷ 2 ∷ []) ∷ []) ≡ None
two_values = refl

no_state : common_value first [] ≡ None
no_state = refl

-- a run that has an answer from horizon 3 on has its least one there, and none up to 2
at_three : coupled_within (λ t. if nat_lt 2 t then Some (7 ∷ []) else None) 2 ≡ At 3 (7 ∷ [])
unfolding coupled_within least_answer
at_three = refl

not_at : coupled_within (λ t. if nat_lt 2 t then Some (7 ∷ []) else None) 1 ≡ NotAt 1
unfolding coupled_within least_answer
not_at = refl
