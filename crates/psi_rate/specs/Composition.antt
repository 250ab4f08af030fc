-- Coupling from the past (Propp and Wilson 1996): the composition of the event functions of the last steps, the
-- oldest first, and what it makes of a set of states.
use Rattle.std.specs.Prelude.{◌≡◌, ℕ, zero, suc, ◌-◌, ◌≤◌, List, map, slice_index_or}
use Rattle.psi_state.specs.State.{IsBelow, all_states}
use Rattle.psi_state.specs.Sets.{image}
use Rattle.psi_event.specs.Law.{IsClosed, IsMonotone}
use Rattle.psi_rate.specs.Rates.{event_of}

-- a network's parts: capacities, events, their rates, the greatest horizon's exponent and the split number
pub record SystemParts (E : Type 0) : Type 0 where
  pub caps : List ℕ
  pub events : List E
  pub rates : List ℕ
  pub limit : ℕ
  pub split : ℕ

-- what the step of each time makes of each state; times are counted in steps before time zero
abbrev pub Functions : Type 0
Functions = ℕ → List ℕ → List ℕ

-- the function of the event of a word; idle, which has no place in the list, changes nothing
abbrev pub picked : List (List ℕ → List ℕ) → List ℕ → ℕ → List ℕ → List ℕ
picked functions rates word = slice_index_or functions (event_of rates word) (λ x. x)

-- the function of the event t steps before time zero; its word stands at place t - 1. Times are counted from 1 on: at 0 this would be that of time 1
abbrev pub function_at : List (List ℕ → List ℕ) → List ℕ → (ℕ → ℕ) → ℕ → List ℕ → List ℕ
function_at functions rates words t = picked functions rates (words (t - 1))

-- the functions of a network's events by the time before zero, under these words
abbrev pub system_functions : {E : Type 0} → (E → List ℕ → List ℕ) → SystemParts E → (ℕ → ℕ) → ℕ → List ℕ → List ℕ
system_functions function system words = function_at (map function system.events) system.rates words

-- the functions of all times
module _ (f : Functions) where
  -- what the last t steps make of a state: the oldest event comes first
  abbrev pub compose : ℕ → List ℕ → List ℕ
  compose zero x = x
  compose (suc t) x = compose t (f (suc t) x)

  -- what the last t steps make of the states of a list
  abbrev pub image_from : List (List ℕ) → ℕ → List (List ℕ)
  image_from xs t = image (compose t) xs

  -- what the last t steps make of all states
  abbrev pub image_at : List ℕ → ℕ → List (List ℕ)
  image_at caps t = image_from (all_states caps) t

-- the function of each time is such a function
pub record AreEach (Is : (List ℕ → List ℕ) → Type 0) (f : Functions) : Type 0 where
  pub each : (t : ℕ) → Is (f t)

-- each time's function makes states of states
abbrev pub AreClosed : List ℕ → Functions → Type 0
AreClosed caps f = AreEach (IsClosed caps) f

-- each time's function is monotone
abbrev pub AreMonotone : List ℕ → Functions → Type 0
AreMonotone caps f = AreEach (IsMonotone caps) f

-- the function keeps a set of states: what it makes of each of them is one of them
pub record Keeps (S : List ℕ → Type 0) (f : List ℕ → List ℕ) : Type 0 where
  pub each : (x : List ℕ) → S x → S (f x)

-- each time's function keeps the set
abbrev pub AreKeeping : (List ℕ → Type 0) → Functions → Type 0
AreKeeping S f = AreEach (Keeps S) f

-- the set of the states within the capacities
abbrev pub Below : List ℕ → List ℕ → Type 0
Below caps x = IsBelow x caps

-- every state of the set, started t steps before time zero or earlier, is s at time zero
pub record IsReachedFrom (S : List ℕ → Type 0) (f : Functions) (t : ℕ) (s : List ℕ) : Type 0 where
  pub each : (x : List ℕ) (earlier : ℕ) → S x → t ≤ earlier → compose f earlier x ≡ s

-- every state within the capacities, started t steps before time zero or earlier, is s at time zero
abbrev pub IsReached : Functions → List ℕ → ℕ → List ℕ → Type 0
IsReached f caps t s = IsReachedFrom (Below caps) f t s
