-- Worked values of the definitions, computed by the checker.
use Rattle.std.specs.Prelude.{◌≡◌, ℕ, suc, min, List, [], ◌∷◌, Some, None, refl}
use Rattle.psi_state.specs.State.{box, all_states}
use Rattle.psi_state.specs.Sets.{ascending, image, single}
use Rattle.psi_state.specs.Hull.{hull}

-- two queues of one place each have four states, in lexicographic order
states_of_two_queues : all_states (1 ∷ 1 ∷ []) ≡ (0 ∷ 0 ∷ []) ∷ (0 ∷ 1 ∷ []) ∷ (1 ∷ 0 ∷ []) ∷ (1 ∷ 1 ∷ []) ∷ []
states_of_two_queues = refl

-- a queue of two places has three
states_of_one_queue : all_states (2 ∷ []) ≡ (0 ∷ []) ∷ (1 ∷ []) ∷ (2 ∷ []) ∷ []
states_of_one_queue = refl

-- two queues of different capacities: the last queue changes fastest
states_of_unlike_queues : all_states (1 ∷ 2 ∷ [])
    ≡ (0 ∷ 0 ∷ []) ∷ (0 ∷ 1 ∷ []) ∷ (0 ∷ 2 ∷ []) ∷ (1 ∷ 0 ∷ []) ∷ (1 ∷ 1 ∷ []) ∷ (1 ∷ 2 ∷ []) ∷ []
states_of_unlike_queues = refl

-- a box that doesn't begin at zero
states_from_one : box (1 ∷ []) (2 ∷ []) ≡ (1 ∷ []) ∷ (2 ∷ []) ∷ []
states_from_one = refl

-- a box whose corners are one state
states_of_one_corner : box (3 ∷ 4 ∷ []) (3 ∷ 4 ∷ []) ≡ (3 ∷ 4 ∷ []) ∷ []
states_of_one_corner = refl

-- corners that are upside down have no state between them
states_upside_down : box (2 ∷ []) (1 ∷ []) ≡ []
states_upside_down = refl

-- a set is in ascending order and has no repeats
set_in_order : ascending ((1 ∷ 0 ∷ []) ∷ (0 ∷ 1 ∷ []) ∷ (1 ∷ 0 ∷ []) ∷ (0 ∷ 0 ∷ []) ∷ (0 ∷ 1 ∷ []) ∷ [])
    ≡ (0 ∷ 0 ∷ []) ∷ (0 ∷ 1 ∷ []) ∷ (1 ∷ 0 ∷ []) ∷ []
set_in_order = refl

-- an arrival to a queue of two places, where a customer that finds it full is lost
abbrev arrival : List ℕ → List ℕ
arrival [] = []
arrival (v ∷ x) = min 2 (suc v) ∷ x

-- after it the queue isn't empty
image_of_arrival : image arrival (all_states (2 ∷ [])) ≡ (1 ∷ []) ∷ (2 ∷ []) ∷ []
image_of_arrival = refl

-- one of two crosswise states is the least in one place, and the other in the other
hull_of_crosswise : hull ((0 ∷ 1 ∷ []) ∷ (1 ∷ 0 ∷ []) ∷ []) ≡ all_states (1 ∷ 1 ∷ [])
unfolding hull
hull_of_crosswise = refl

single_of_none : single {A = List ℕ} [] ≡ None
single_of_none = refl

single_of_one : single {A = List ℕ} ((5 ∷ []) ∷ []) ≡ Some (5 ∷ [])
single_of_one = refl

single_of_two : single {A = List ℕ} ((5 ∷ []) ∷ (5 ∷ []) ∷ []) ≡ None
single_of_two = refl
