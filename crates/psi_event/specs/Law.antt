-- What an event promises: a function on the states of its capacities, and whether it keeps their order.
use Rattle.std.specs.Prelude.{ℕ, List, Option, MatchOption}
use Rattle.psi_state.specs.State.{IsBelow}

-- what an event makes of each state
abbrev pub Function : Type 0
Function = List ℕ → List ℕ

-- the function makes states of states
pub record IsClosed (caps : List ℕ) (f : Function) : Type 0 where
  pub each : (x : List ℕ) → IsBelow x caps → IsBelow (f x) caps

-- the function keeps the componentwise order of states (Propp and Wilson 1996)
pub record IsMonotone (caps : List ℕ) (f : Function) : Type 0 where
  pub each : (x y : List ℕ) → IsBelow y caps → IsBelow x y → IsBelow (f x) (f y)

-- two states whose order the function doesn't keep
pub record IsUpset (caps : List ℕ) (f : Function) (x y : List ℕ) : Type 0 where
  pub within : IsBelow y caps
  pub ordered : IsBelow x y
  pub upset : IsBelow (f x) (f y) → ⊥

-- no pair where the function is monotone, and otherwise a pair that shows that it isn't
abbrev pub ShowsUpset : List ℕ → Function → Option (List ℕ × List ℕ) → Type 0
ShowsUpset caps f pair = MatchOption pair (IsMonotone caps f) (λ p. IsUpset caps f p.0 p.1)
