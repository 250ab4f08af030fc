-- Closed networks: a fixed number of customers, and the runs over the states that hold so many. A set of them is followed as
-- the arcs of its states, one for each queue, as the arcs of a decision diagram (Bryant 1986); coupling from the past is that of
-- Propp and Wilson 1996.
use Rattle.std.specs.Prelude.{◌≡◌, ℕ, zero, suc, ◌^◌, ◌≤◌, List, [], ◌∷◌, length, take, filter, slice_index, slice_index_or, map, Bool, ◌&&◌, nat_eq, Option, None, if◌then◌else◌}
use Rattle.std.specs.List.{list_any, list_all, flat_map}
use Rattle.psi_state.specs.declared.Outcome.{Outcome}
use Rattle.psi_state.specs.declared.Outcome.TheVariants.{Met, NotMet}
use Rattle.psi_state.specs.State.{IsBelow, numbers_from, all_states}
use Rattle.psi_state.specs.Members.{AreAmong}
use Rattle.psi_state.specs.Sets.{image, single}
use Rattle.psi_rate.specs.Composition.{Functions}
use Rattle.psi_closed_arcs.specs.declared.ends.Arc.{Arc}
use Rattle.psi_closed_arcs.specs.Walks.{customers}

-- a state of the capacities that holds k customers
pub record IsOfTotal (caps : List ℕ) (k : ℕ) (x : List ℕ) : Type 0 where
  pub within : IsBelow x caps
  pub whole : customers x ≡ k

-- the lexicographic list of these states
unfoldable pub total_states : List ℕ → ℕ → List (List ℕ)
total_states caps k = filter (λ x. nat_eq (customers x) k) (all_states caps)

-- the arc of a state at a queue: what the queues before it hold together, and what it holds
abbrev pub arc_at : List ℕ → ℕ → Arc
arc_at x i = record { level = i; before = customers (take i x); value = slice_index x i }

-- the arcs of a state, one for each queue
abbrev pub arcs_of : List ℕ → List Arc
arcs_of x = map (λ i. arc_at x i) (numbers_from 0 (length x))

-- the arcs of the states of a list
unfoldable pub all_arcs : List (List ℕ) → List Arc
all_arcs xs = flat_map (λ x. arcs_of x) xs

-- two arcs are one
abbrev pub is_same : Arc → Arc → Bool
is_same a b = nat_eq a.level b.level && nat_eq a.before b.before && nat_eq a.value b.value

-- the arc is in the list
abbrev pub has_arc : List Arc → Arc → Bool
has_arc arcs a = list_any (λ b. is_same a b) arcs

-- the states with k customers each of whose arcs is in the list
unfoldable pub held_states : List ℕ → ℕ → List Arc → List (List ℕ)
held_states caps k arcs = filter (λ x. list_all (λ a. has_arc arcs a) (arcs_of x)) (total_states caps k)

-- the arc hull of a list of states: the states with k customers each of whose arcs is an arc of some state of the list
abbrev pub arc_hull : List ℕ → ℕ → List (List ℕ) → List (List ℕ)
arc_hull caps k xs = held_states caps k (all_arcs xs)

-- the list is its own arc hull
pub record IsHull (caps : List ℕ) (k : ℕ) (xs : List (List ℕ)) : Type 0 where
  pub own : arc_hull caps k xs ≡ xs

-- the arcs of a list, each once
abbrev pub each_once : List Arc → List Arc
each_once [] = []
each_once (a ∷ arcs) = if has_arc arcs a then each_once arcs else a ∷ each_once arcs

-- the number of different arcs that the states of a list have
unfoldable pub arc_count : List (List ℕ) → ℕ
arc_count xs = length (each_once (all_arcs xs))

-- what the functions of these numbers make of a list of states, that of the last number first: each step replaces it by the arc hull of its image
abbrev pub follow_closed : List ℕ → ℕ → List (List ℕ → List ℕ) → List ℕ → List (List ℕ) → List (List ℕ)
follow_closed caps k functions [] xs = xs
follow_closed caps k functions (n ∷ ns) xs = arc_hull caps k (image (slice_index_or functions n (λ x. x)) (follow_closed caps k functions ns xs))

-- what the functions of these numbers make of a state, that of the last number first
abbrev pub walk_of : List (List ℕ → List ℕ) → List ℕ → List ℕ → List ℕ
walk_of functions [] x = x
walk_of functions (n ∷ ns) x = slice_index_or functions n (λ y. y) (walk_of functions ns x)

-- the closed runs over the states with k customers, under these functions
module _ (caps : List ℕ) (k : ℕ) (f : Functions) where
  -- what the last t steps make of a list of states: each step replaces it by the arc hull of its image, the oldest first
  abbrev pub closed_after : ℕ → List (List ℕ) → List (List ℕ)
  closed_after zero xs = xs
  closed_after (suc t) xs = closed_after t (arc_hull caps k (image (f (suc t)) xs))

  -- the states with which the closed run of a horizon ends
  unfoldable pub closed_run : ℕ → List (List ℕ)
  closed_run t = closed_after t (total_states caps k)

  -- the one state with which it ends, if it ends with one
  abbrev pub closed_ending : ℕ → Option (List ℕ)
  closed_ending t = single (closed_run t)

  -- the closed runs are ordered by horizon: a longer run's states are among a shorter run's
  pub record AreOrdered : Type 0 where
    pub each : (t : ℕ) → AreAmong (closed_run (suc t)) (closed_run t)

  -- where an outcome is met, each closed run from its horizon on ends with its state alone; where it isn't, no closed run of a horizon up to 2^limit ends with one state
  abbrev pub DecidesRuns : ℕ → Outcome → Type 0
  DecidesRuns limit (Met t s) = (later : ℕ) → t ≤ later → closed_run later ≡ s ∷ []
  DecidesRuns limit (NotMet l) = (t : ℕ) → t ≤ 2 ^ limit → closed_ending t ≡ None

-- a state that is met is one of the capacities and holds k customers
abbrev pub MeetsOfTotal : List ℕ → ℕ → Outcome → Type 0
MeetsOfTotal caps k (Met t s) = IsOfTotal caps k s
MeetsOfTotal caps k (NotMet l) = Unit {0}
