-- The definitions on a small network, worked out by hand and computed by the checker.
use Rattle.std.proofs.Common.{◌≡◌, ℕ, List, [], ◌∷◌, refl}
use Rattle.psi_rate.specs.Rates.{least_power, event_of}
use Rattle.psi_rate.specs.Composition.{compose}
use Rattle.psi_rate.specs.Least.{least_answer}
use Rattle.psi_rate.specs.Outcomes.{meeting_at}
use Rattle.psi_rate.proofs.Worked.{caps, f}
use Rattle.psi_exact.specs.Ranks.{rank_of, state_at}
use Rattle.psi_exact.specs.declared.answers.Meeting.TheVariants.{Constant, NotConstant}
use Rattle.psi_exact.specs.Mapping.{Mapped, map_of, sends}
use Rattle.psi_exact.specs.Distinct.{distinct_count}
use Rattle.psi_exact.specs.Sizes.{image_sizes}
use Rattle.psi_exact.specs.Surveys.{meeting_within}

-- two steps leave two states, and the map of three is constant
sizes : image_sizes f caps 2 ≡ 2 ∷ 2 ∷ 1 ∷ []
unfolding event_of least_power
sizes = refl

meetings : meeting_within (meeting_at f caps) 2 ∷ meeting_within (meeting_at f caps) 1 ∷ [] ≡ Constant 3 (1 ∷ []) ∷ NotConstant 1 ∷ []
unfolding meeting_within least_answer event_of least_power
meetings = refl

-- the maps of two and of three steps
abbrev images_of : List (List ℕ) → Mapped
images_of xs = record { caps = caps; images = xs }

map_of_two : map_of caps (compose f 2) ≡ images_of ((0 ∷ []) ∷ (1 ∷ []) ∷ (1 ∷ []) ∷ [])
unfolding event_of least_power
map_of_two = refl

map_of_three : map_of caps (compose f 3) ≡ images_of ((1 ∷ []) ∷ (1 ∷ []) ∷ (1 ∷ []) ∷ [])
unfolding event_of least_power
map_of_three = refl

-- one customer is sent to one customer by two steps
sent_to_one : sends (map_of caps (compose f 2)) (1 ∷ []) ≡ 1 ∷ []
unfolding sends rank_of event_of least_power
sent_to_one = refl

-- three different numbers of five
three_of_five : distinct_count (4 ∷ 7 ∷ 4 ∷ 0 ∷ 7 ∷ []) ≡ 3
three_of_five = refl

-- two queues with room for one and for two customers: 00, 01, 02, 10, 11, 12
abbrev two_caps : List ℕ
two_caps = 1 ∷ 2 ∷ []

rank_of_fourth : rank_of two_caps (1 ∷ 0 ∷ []) ≡ 3
unfolding rank_of
rank_of_fourth = refl

state_of_rank_five : state_at two_caps 5 ≡ 1 ∷ 2 ∷ []
unfolding state_at
state_of_rank_five = refl
