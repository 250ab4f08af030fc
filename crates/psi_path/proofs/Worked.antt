-- The definitions on a small network, worked out by hand and computed by the checker.
use Rattle.std.specs.Prelude.{◌≡◌, ◌+◌, ◌-◌, negsuc, pos, ◌*ℤ◌, [], ◌∷◌, map, min, slice_index, refl}
use Rattle.psi_rate.specs.Rates.{event_of, least_power}
use Rattle.psi_path.specs.Path.{Path, first_place, state_of, event_after}
use Rattle.psi_path.specs.Sums.{customers_until, worth_until, chosen_until, changed_until}

-- one queue with room for two, which customers join at the rate 1 and leave at the rate 2: of the numbers below 4, event 0 has 0, event 1 has 1 and 2, and 3 is idle.
-- It holds one customer at time zero. Then two more come, the second of whom is lost, and so is a third; one is served, a time is idle, and one is served.
abbrev walked : Path
walked = record {
  functions = (λ x. (min 2 (slice_index x 0 + 1)) ∷ []) ∷ (λ x. (slice_index x 0 - 1) ∷ []) ∷ [];
  rates = 1 ∷ 2 ∷ [];
  words = λ place. slice_index (0 ∷ 4 ∷ 0 ∷ 1 ∷ 3 ∷ 6 ∷ []) (place - first_place);
  start = 1 ∷ [];
}

states : map (state_of walked) (0 ∷ 1 ∷ 2 ∷ 3 ∷ 4 ∷ 5 ∷ 6 ∷ []) ≡ (1 ∷ []) ∷ (2 ∷ []) ∷ (2 ∷ []) ∷ (2 ∷ []) ∷ (1 ∷ []) ∷ (1 ∷ []) ∷ (0 ∷ []) ∷ []
unfolding first_place event_of least_power
states = refl

events : map (event_after walked) (1 ∷ 2 ∷ 3 ∷ 4 ∷ 5 ∷ 6 ∷ []) ≡ 0 ∷ 0 ∷ 0 ∷ 1 ∷ 2 ∷ 1 ∷ []
unfolding first_place event_of least_power
events = refl

-- 1 + 2 + 2 + 2 + 1 + 1 + 0 customers; before the first step 1
customers : map (customers_until walked 0) (0 ∷ 1 ∷ 6 ∷ []) ≡ 1 ∷ 3 ∷ 9 ∷ []
unfolding first_place event_of least_power
customers = refl

-- each customer costs 5
worth : worth_until walked (λ x. negsuc 4 *ℤ pos (slice_index x 0)) 6 ≡ negsuc 44
unfolding first_place event_of least_power
worth = refl

-- of the three that come one stays, and both services change the state
counts : map (λ e. chosen_until walked e 6) (0 ∷ 1 ∷ []) ≡ 3 ∷ 2 ∷ []
unfolding first_place event_of least_power
counts = refl

changes : map (λ e. changed_until walked e 6) (0 ∷ 1 ∷ []) ≡ 1 ∷ 2 ∷ []
unfolding first_place event_of least_power
changes = refl
