-- The definitions on small inputs, worked out by hand and computed by the checker.
use Rattle.std.proofs.Common.{◌≡◌, ℕ, ◌+◌, ◌-◌, min, List, [], ◌∷◌, slice_index, Some, None, refl, ◌*◌, nat_lt, if◌then◌else◌}
use Rattle.psi_state.specs.declared.Outcome.TheVariants.{Met, NotMet}
use Rattle.psi_rate.specs.Rates.{least_power, event_of}
use Rattle.psi_rate.specs.Composition.{function_at, compose, image_at}
use Rattle.psi_rate.specs.Doubling.{first_answer}
use Rattle.psi_rate.specs.Least.{least_answer}
use Rattle.psi_rate.specs.Outcomes.{meeting_at, outcome_within}

least_powers : least_power 1 ∷ least_power 2 ∷ least_power 3 ∷ least_power 58 ∷ [] ≡ 1 ∷ 2 ∷ 4 ∷ 64 ∷ []
unfolding least_power
least_powers = refl

-- of four numbers the first is event 0's, two are event 1's, and one is idle
events : event_of (1 ∷ 2 ∷ []) 4 ∷ event_of (1 ∷ 2 ∷ []) 5 ∷ event_of (1 ∷ 2 ∷ []) 6 ∷ event_of (1 ∷ 2 ∷ []) 7 ∷ [] ≡ 0 ∷ 1 ∷ 1 ∷ 2 ∷ []
unfolding event_of least_power
events = refl

-- one queue with room for two, which one joins at the rate 1 and one leaves at the rate 2
abbrev pub caps : List ℕ
caps = 2 ∷ []

-- one customer joins a queue with room for so many, and one leaves it
abbrev pub joined : ℕ → List ℕ → List ℕ
joined cap [] = []
joined cap (v ∷ x) = min cap (v + 1) ∷ x

abbrev pub left : List ℕ → List ℕ
left [] = []
left (v ∷ x) = (v - 1) ∷ x

-- backwards in time: out, in, in, idle
abbrev pub f : ℕ → List ℕ → List ℕ
f = function_at (joined 2 ∷ left ∷ []) (1 ∷ 2 ∷ []) (slice_index (2 ∷ 0 ∷ 0 ∷ 3 ∷ []))

-- the oldest event comes first: from none, idle, in, in and out leave one
from_none : compose f 4 (0 ∷ []) ≡ 1 ∷ []
unfolding event_of least_power
from_none = refl

images : image_at f caps 1 ∷ image_at f caps 2 ∷ image_at f caps 4 ∷ []
    ≡ ((0 ∷ []) ∷ (1 ∷ []) ∷ []) ∷ ((0 ∷ []) ∷ (1 ∷ []) ∷ []) ∷ ((1 ∷ []) ∷ []) ∷ []
unfolding event_of least_power
images = refl

-- met at four, and not within two
outcomes : outcome_within (meeting_at f caps) 18 ∷ outcome_within (meeting_at f caps) 1 ∷ [] ≡ Met 4 (1 ∷ []) ∷ NotMet 1 ∷ []
unfolding outcome_within first_answer event_of least_power
outcomes = refl

-- the first of 1, 2, 4 and 8 that is above 3
first_above : first_answer (λ t. if nat_lt 3 t then Some (10 * t) else None) 3 ≡ Some (4, 40)
unfolding first_answer
first_above = refl

-- the first of 1, 2, 3, 4 and 5 that is above 2, and of 1 and 2 none
least_above : least_answer (λ t. if nat_lt 2 t then Some (10 * t) else None) 5 ≡ Some (3, 30)
unfolding least_answer
least_above = refl

none_above : least_answer (λ t. if nat_lt 2 t then Some (10 * t) else None) 2 ≡ None
unfolding least_answer
none_above = refl
