-- The definitions on small inputs, worked out by hand and computed by the checker.
use Rattle.std.proofs.Common.{◌≡◌, ℕ, List, [], ◌∷◌, slice_index, refl}
use Rattle.psi_state.specs.declared.Outcome.{Outcome}
use Rattle.psi_state.specs.declared.Outcome.TheVariants.{Met, NotMet}
use Rattle.psi_state.specs.Sets.{image}
use Rattle.psi_kinds.specs.declared.moves.Move.{Move}
use Rattle.psi_kinds.specs.Moves.{moved}
use Rattle.psi_rate.specs.Rates.{event_of, least_power}
use Rattle.psi_rate.specs.Doubling.{first_answer}
use Rattle.psi_rate.specs.Outcomes.{outcome_within}
use Rattle.psi_closed.specs.Closed.{total_states, all_arcs, held_states, arc_hull, arc_count, closed_run, closed_ending}
use Rattle.psi_closed.specs.Planned.{closed_functions}

abbrev move_of : ℕ → ℕ → Move
move_of from to = record { from = from; k = 1; to = to }

-- four queues of capacity 1
abbrev caps : List ℕ
caps = 1 ∷ 1 ∷ 1 ∷ 1 ∷ []

-- six states hold two customers
all_of_two : total_states caps 2
    ≡ (0 ∷ 0 ∷ 1 ∷ 1 ∷ []) ∷ (0 ∷ 1 ∷ 0 ∷ 1 ∷ []) ∷ (0 ∷ 1 ∷ 1 ∷ 0 ∷ []) ∷ (1 ∷ 0 ∷ 0 ∷ 1 ∷ []) ∷ (1 ∷ 0 ∷ 1 ∷ 0 ∷ []) ∷ (1 ∷ 1 ∷ 0 ∷ 0 ∷ []) ∷ []
unfolding total_states
all_of_two = refl

-- two crosswise states and the two that mix their arcs; the box from their least to their greatest values has all six
abbrev crosswise : List (List ℕ)
crosswise = (0 ∷ 1 ∷ 0 ∷ 1 ∷ []) ∷ (0 ∷ 1 ∷ 1 ∷ 0 ∷ []) ∷ (1 ∷ 0 ∷ 0 ∷ 1 ∷ []) ∷ (1 ∷ 0 ∷ 1 ∷ 0 ∷ []) ∷ []

hull_of_two : arc_hull caps 2 ((1 ∷ 0 ∷ 1 ∷ 0 ∷ []) ∷ (0 ∷ 1 ∷ 0 ∷ 1 ∷ []) ∷ []) ≡ crosswise
unfolding total_states all_arcs held_states
hull_of_two = refl

arcs_of_crosswise : arc_count crosswise ≡ 8
unfolding all_arcs arc_count
arcs_of_crosswise = refl

-- a customer goes from the first queue to the second
hull_after_a_move : arc_hull caps 2 (image (moved caps (move_of 0 1)) crosswise) ≡ (0 ∷ 1 ∷ 0 ∷ 1 ∷ []) ∷ (0 ∷ 1 ∷ 1 ∷ 0 ∷ []) ∷ []
unfolding moved total_states all_arcs held_states
hull_after_a_move = refl

-- two queues with room for two, and a move each way at the rate 1, under the first words of the seed 0 and the stream 0 (RFC 8439, appendix A.1)
abbrev words : ℕ → ℕ
words = slice_index (2917185654 ∷ 2419978656 ∷ 3848953152 ∷ 683509331 ∷ 3088700093 ∷ 451775904 ∷ 3438229160 ∷ 3339548555 ∷ [])

abbrev ending_of : ℕ → ℕ → Outcome
ending_of total limit =
    outcome_within (closed_ending (2 ∷ 2 ∷ []) total (closed_functions (2 ∷ 2 ∷ []) (move_of 0 1 ∷ move_of 1 0 ∷ []) (1 ∷ 1 ∷ []) words)) limit

two_of_four : ending_of 2 3 ≡ Met 2 (0 ∷ 2 ∷ [])
unfolding moved total_states all_arcs held_states closed_run outcome_within first_answer event_of least_power
two_of_four = refl

full_queues : ending_of 4 3 ≡ Met 1 (2 ∷ 2 ∷ [])
unfolding moved total_states all_arcs held_states closed_run outcome_within first_answer event_of least_power
full_queues = refl

empty_queues : ending_of 0 3 ≡ Met 1 (0 ∷ 0 ∷ [])
unfolding moved total_states all_arcs held_states closed_run outcome_within first_answer event_of least_power
empty_queues = refl

-- one customer in a ring of three queues of capacity 1; an idle step changes nothing
abbrev ring : ℕ → Outcome
ring limit =
    outcome_within (closed_ending (1 ∷ 1 ∷ 1 ∷ []) 1
    (closed_functions (1 ∷ 1 ∷ 1 ∷ []) (move_of 0 1 ∷ move_of 1 2 ∷ move_of 2 0 ∷ []) (1 ∷ 1 ∷ 1 ∷ []) words)) limit

ring_meets : ring 3 ≡ Met 8 (1 ∷ 0 ∷ 0 ∷ [])
unfolding moved total_states all_arcs held_states closed_run outcome_within first_answer event_of least_power
ring_meets = refl

ring_within_two : ring 2 ≡ NotMet 2
unfolding moved total_states all_arcs held_states closed_run outcome_within first_answer event_of least_power
ring_within_two = refl
