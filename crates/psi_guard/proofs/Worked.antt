-- Guarded events on small states, worked out by hand and computed by the checker.
use Rattle.std.proofs.Common.{◌≡◌, ℕ, List, [], ◌∷◌, map, pos, negsuc, ℤ, Some, None, refl}
use Rattle.psi_state.specs.State.{box}
use Rattle.psi_state.specs.Sets.{image}
use Rattle.psi_state.specs.Hull.{corners}
use Rattle.psi_event.specs.Choice.{first_some}
use Rattle.psi_guard.specs.declared.parts.Part.{Part}
use Rattle.psi_guard.specs.declared.guarded.GuardRefusal.TheVariants.{Empty, Repeated, OutOfRange}
use Rattle.psi_guard.specs.Guarding.{guarded, upset_of}
use Rattle.psi_guard.specs.Refusals.{refusal_of}

abbrev part : ℕ → ℕ → ℕ → ℤ → ℕ → ℕ → Part
part queue least most shift floor ceiling = record { queue = queue; least = least; most = most; shift = shift; floor = floor; ceiling = ceiling }

-- room for five: up to two customers become five
abbrev jump : List Part
jump = part 0 0 2 (pos 0) 5 5 ∷ []

jumps : map (guarded jump) ((1 ∷ []) ∷ (2 ∷ []) ∷ (3 ∷ []) ∷ []) ≡ (5 ∷ []) ∷ (5 ∷ []) ∷ (3 ∷ []) ∷ []
unfolding guarded
jumps = refl

jump-upset : upset_of (5 ∷ []) jump ≡ Some (2 ∷ [], 3 ∷ [])
unfolding upset_of first_some
jump-upset = refl

-- room for five: three or more become one
drop-upset : upset_of (5 ∷ []) (part 0 3 5 (pos 0) 0 1 ∷ []) ≡ Some (2 ∷ [], 3 ∷ [])
unfolding upset_of first_some
drop-upset = refl

drops : map (guarded (part 0 3 5 (pos 0) 0 1 ∷ [])) ((2 ∷ []) ∷ (3 ∷ []) ∷ []) ≡ (2 ∷ []) ∷ (1 ∷ []) ∷ []
unfolding guarded
drops = refl

-- a reset keeps the order
reset-upset : upset_of (5 ∷ []) (part 0 0 5 (pos 0) 0 0 ∷ []) ≡ None
unfolding upset_of first_some
reset-upset = refl

resets : map (guarded (part 0 0 5 (pos 0) 0 0 ∷ [])) ((0 ∷ []) ∷ (4 ∷ []) ∷ []) ≡ (0 ∷ []) ∷ (0 ∷ []) ∷ []
unfolding guarded
resets = refl

-- no part changes nothing
idle : map (guarded []) ((1 ∷ 2 ∷ []) ∷ []) ≡ (1 ∷ 2 ∷ []) ∷ []
unfolding guarded
idle = refl

-- a customer of the first queue takes one from the second
abbrev negative : List Part
negative = part 0 1 1 (negsuc 0) 0 1 ∷ part 1 0 1 (negsuc 0) 0 1 ∷ []

negative-box : corners (image (guarded negative) (box (0 ∷ 0 ∷ []) (1 ∷ 1 ∷ []))) ≡ record { lo = 0 ∷ 0 ∷ []; hi = 0 ∷ 1 ∷ [] }
unfolding guarded
negative-box = refl

negative-upset : upset_of (1 ∷ 1 ∷ []) negative ≡ Some (0 ∷ 1 ∷ [], 1 ∷ 1 ∷ [])
unfolding upset_of first_some
negative-upset = refl

-- a customer comes to both queues, where both have room
fork-upset : upset_of (1 ∷ 1 ∷ []) (part 0 0 0 (pos 1) 0 1 ∷ part 1 0 0 (pos 1) 0 1 ∷ []) ≡ Some (0 ∷ 0 ∷ [], 1 ∷ 0 ∷ [])
unfolding upset_of first_some
fork-upset = refl

-- what is refused: each by the first cause
abbrev good : Part
good = part 0 0 3 (pos 1) 0 3

hollow-refused : map (λ p. refusal_of (3 ∷ []) (p ∷ good ∷ []))
    (part 0 2 1 (pos 1) 0 3 ∷ part 0 4 3 (pos 1) 0 3 ∷ part 0 0 3 (pos 1) 4 3 ∷ part 0 0 3 (pos 1) 2 1 ∷ [])
    ≡ Some Empty ∷ Some Empty ∷ Some Empty ∷ Some Empty ∷ []
hollow-refused = refl

out-refused : map (λ p. refusal_of (3 ∷ []) (p ∷ good ∷ []))
    (part 0 0 4 (pos 1) 0 3 ∷ part 0 0 3 (pos 1) 0 4 ∷ part 1 2 1 (pos 1) 0 3 ∷ part 0 0 3 (pos 65536) 0 3 ∷ part 0 0 3 (negsuc 65535) 0 3 ∷ [])
    ≡ Some OutOfRange ∷ Some OutOfRange ∷ Some OutOfRange ∷ Some OutOfRange ∷ Some OutOfRange ∷ []
out-refused = refl

repeated-refused : map (λ p. refusal_of (3 ∷ []) (good ∷ p ∷ [])) (good ∷ part 0 2 1 (pos 1) 0 3 ∷ part 0 0 4 (pos 1) 0 3 ∷ [])
    ≡ Some Repeated ∷ Some Repeated ∷ Some OutOfRange ∷ []
repeated-refused = refl

far-accepted : refusal_of (3 ∷ []) (part 0 0 3 (negsuc 65534) 0 3 ∷ []) ≡ None
far-accepted = refl
