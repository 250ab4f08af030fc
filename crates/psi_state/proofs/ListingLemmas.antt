-- Lemmas. The states of a box from one of them on, in the order of the box's list.
use Rattle.std.specs.Prelude.{◌≡◌, ℕ, suc, ◌-◌, List, [], ◌∷◌, refl}
use Rattle.std.proofs.Common.{arith}
use Rattle.psi_state.specs.State.{IsBelow, box}
use Rattle.psi_state.proofs.BoxesLemmas.{below-induction}
use Rattle.psi_state.specs.Listing.{onward}

-- from the lower corner on, these are all states of the box
pub onward-low : (l h : List ℕ) → IsBelow l h → onward l h l ≡ box l h
onward-low =
    below-induction (λ l h. onward l h l ≡ box l h) refl
    (λ j k l h first ordered rest. (let count : suc k - j ≡ suc (k - j) = omega arith in rw (count, rest) refl))

-- from the upper corner on, it is that corner alone
pub onward-high : (l h : List ℕ) → IsBelow l h → onward l h h ≡ h ∷ []
onward-high =
    below-induction (λ l h. onward l h h ≡ h ∷ []) refl
    (λ j k l h first ordered rest. (let none : k - k ≡ 0 = omega arith in rw (none, rest) refl))
