-- Functions that agree on the states of the capacities.
use Rattle.std.specs.Prelude.{◌≡◌, ℕ, ◌<◌, List, length, slice_index_or}
use Rattle.psi_state.specs.State.{IsBelow}

-- two functions agree on the states of the capacities
pub record Agree (caps : List ℕ) (f g : List ℕ → List ℕ) : Type 0 where
  pub each : (x : List ℕ) → IsBelow x caps → f x ≡ g x

-- and so do the functions of two lists, place by place
pub record AreAlike (caps : List ℕ) (fs gs : List (List ℕ → List ℕ)) : Type 0 where
  pub same_length : length fs ≡ length gs
  pub each : (k : ℕ) → k < length fs → Agree caps (slice_index_or fs k (λ x. x)) (slice_index_or gs k (λ x. x))
