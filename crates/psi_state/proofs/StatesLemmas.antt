-- Lemmas. What is known of the states of given capacities and of a box, and when a box has one state.
use Rattle.std.specs.Prelude.{◌≡◌, ℕ, suc, ◌-◌, List, [], ◌∷◌, Some, None, true, false, nat_eq, refl}
use Rattle.std.specs.Cmp.Lexicographic.{pointwise, bytes_decides}
use Rattle.std.proofs.Common.{ap, arith}
use Rattle.psi_state.specs.State.{IsBelow, box, zeros, all_states}
use Rattle.psi_state.specs.Members.{In}
use Rattle.psi_state.proofs.BoxesLemmas.{below-itself, In-of_box, In-low, In-high, In-all_states, zeros-below}
use Rattle.psi_state.specs.Sets.{single}
use Rattle.psi_state.proofs.SetsLemmas.{single-apart}
use Rattle.psi_state.specs.Hull.{IsTight, corners, hull}
use Rattle.psi_state.proofs.HullLemmas.{corners-from_tight}

pub zeros-caps : (caps : List ℕ) → IsBelow (zeros caps) caps
zeros-caps caps = zeros-below caps caps refl

-- no customer at all is a state, and so are full queues
pub In-zeros : (caps : List ℕ) → In (zeros caps) (all_states caps)
In-zeros caps = In-all_states caps (zeros caps) (zeros-caps caps)

pub In-caps : (caps : List ℕ) → In caps (all_states caps)
In-caps caps = In-all_states caps caps (below-itself caps)

-- a box with one corner has one state
pub box-same : (x : List ℕ) → box x x ≡ x ∷ []
box-same [] = refl
box-same (v ∷ x) =
    let one : suc v - v ≡ 1 = omega arith in rw (one, box-same x) refl

-- a box has one state exactly where its corners are one
pub single-box : (x : List ℕ) → single (box x x) ≡ Some x
single-box x = ap (λ (xs : List (List ℕ)). single xs) (box-same x)

pub single-box_apart : (l h : List ℕ) → IsBelow l h → (l ≡ h → ⊥) → single (box l h) ≡ None
single-box_apart l h ordered apart = single-apart (box l h) l h (In-low l h ordered) (In-high l h ordered) apart

-- the corners of a box are those of its hull
pub box-tight : (l h : List ℕ) → IsBelow l h → IsTight (box l h) l h
box-tight l h ordered = record {
  inside = λ x member. In-of_box l h x member;
  low = λ i small. (l, In-low l h ordered, refl);
  high = λ i small. (h, In-high l h ordered, refl);
}

pub corners-box : (l h : List ℕ) → IsBelow l h → corners (box l h) ≡ record { lo = l; hi = h }
corners-box l h ordered = corners-from_tight l (box l h) l h (In-low l h ordered) (box-tight l h ordered)

-- a box is its own hull
pub hull-box : (l h : List ℕ) → IsBelow l h → hull (box l h) ≡ box l h
unfolding hull
hull-box l h ordered = ap (λ c. box c.lo c.hi) (corners-box l h ordered)

-- the test `==` of two states tells whether they are the same
pub same-from_eq : (x y : List ℕ) → pointwise nat_eq x y ≡ true → x ≡ y
same-from_eq x y is = (bytes_decides x y).0 is

pub apart-from_eq : (x y : List ℕ) → pointwise nat_eq x y ≡ false → x ≡ y → ⊥
apart-from_eq x y is same =
    let tied : pointwise nat_eq x y ≡ true = (bytes_decides x y).1 same in
    absurd cc
