-- The path of a network: its states from time zero on, one for each random word past those that samples read.
use Rattle.std.specs.Prelude.{ℕ, zero, suc, ◌+◌, ◌-◌, ◌^◌, List, map, Bool, false, not, nat_eq}
use Rattle.std.specs.Cmp.Lexicographic.{pointwise}
use Rattle.psi_rate.specs.Rates.{event_of}
use Rattle.psi_rate.specs.Composition.{SystemParts, Functions, picked}

-- the place of the random word of time 1; a sample reads places below it only, since its horizon is at most 2^22
unfoldable pub first_place : ℕ
first_place = 2 ^ 22

-- the function of the event of time k, from 1 on, where the word of time 1 stands at this place and the next ones behind it
abbrev pub function_after : ℕ → List (List ℕ → List ℕ) → List ℕ → (ℕ → ℕ) → Functions
function_after first functions rates words k = picked functions rates (words (first + (k - 1)))

-- the state at time k of the path that is in x at time zero, where f has the function of each time from 1 on
abbrev pub state_at : Functions → ℕ → List ℕ → List ℕ
state_at f zero x = x
state_at f (suc k) x = f (suc k) (state_at f k x)

-- a path: the functions of the events, their rates, the random words, and the state at time zero
pub record Path : Type 0 where
  pub functions : List (List ℕ → List ℕ)
  pub rates : List ℕ
  pub words : ℕ → ℕ
  pub start : List ℕ

-- a walk of a path: under these random words, from a state at time zero, for so many steps
pub record Course : Type 0 where
  pub words : ℕ → ℕ
  pub start : List ℕ
  pub steps : ℕ

-- the path of a network from this state under these words
abbrev pub path_of : {E : Type 0} → (E → List ℕ → List ℕ) → SystemParts E → (ℕ → ℕ) → List ℕ → Path
path_of function system words start = record { functions = map function system.events; rates = system.rates; words = words; start = start }

module _ (path : Path) where
  -- its state at time k
  abbrev pub state_of : ℕ → List ℕ
  state_of k = state_at (function_after first_place path.functions path.rates path.words) k path.start

  -- the event of time k, from 1 on: its number, or the count of the events where time k is idle
  abbrev pub event_after : ℕ → ℕ
  event_after k = event_of path.rates (path.words (first_place + (k - 1)))

  -- whether the state of time k, from 1 on, is another than that of time k - 1
  abbrev pub is_changed : ℕ → Bool
  is_changed zero = false
  is_changed (suc k) = not (pointwise nat_eq (state_of (suc k)) (state_of k))
