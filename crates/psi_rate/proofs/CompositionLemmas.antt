-- What the functions of the last steps make of the states of a set that they keep.
use Rattle.std.specs.Prelude.{◌≡◌, ℕ, zero, suc, ◌+◌, ◌-◌, List, Some, None}
use Rattle.std.proofs.Common.{rules, subst, arith}
use Rattle.std.proofs.Math.Nat.{zero-add, suc-add, sub-add_cancel}
use Rattle.std.proofs.lemmas.Grind.{common_steps}
use Rattle.psi_state.specs.State.{IsBelow, zeros, all_states}
use Rattle.psi_state.proofs.BoxesLemmas.{In-of_all_states, below-itself, zeros-below, same-from_below}
use Rattle.psi_state.specs.Sets.{single}
use Rattle.psi_state.proofs.SetsLemmas.{single-image, single-apart, In-image}
use Rattle.psi_state.proofs.StatesLemmas.{In-caps, In-zeros}
use Rattle.psi_rate.specs.Composition.{compose, image_at, AreClosed, AreMonotone, AreKeeping, Below, IsReachedFrom, IsReached}

pub compose-monotone : (caps : List ℕ) (f : ℕ → List ℕ → List ℕ) → AreClosed caps f → AreMonotone caps f
    → (t : ℕ) (x y : List ℕ) → IsBelow y caps → IsBelow x y → IsBelow (compose f t x) (compose f t y)
compose-monotone caps f closed mono zero x y within below = below
compose-monotone caps f closed mono (suc t) x y within below =
    compose-monotone caps f closed mono t (f (suc t) x) (f (suc t) y) ((closed.each (suc t)).each y within) ((mono.each (suc t)).each x y within below)

-- functions that make states of states keep the states within the capacities
pub closed-keeping : (caps : List ℕ) (f : ℕ → List ℕ → List ℕ) → AreClosed caps f → AreKeeping (Below caps) f
closed-keeping caps f closed = search rules

-- so do all steps together
pub compose-keeps : (S : List ℕ → Type 0) (f : ℕ → List ℕ → List ℕ) → AreKeeping S f → (t : ℕ) (x : List ℕ) → S x → S (compose f t x)
compose-keeps S f keeps zero x member = member
compose-keeps S f keeps (suc t) x member = compose-keeps S f keeps t (f (suc t) x) ((keeps.each (suc t)).each x member)

-- states of the set that are one after the last t steps are so whatever steps came before these
pub compose-more : (S : List ℕ → Type 0) (f : ℕ → List ℕ → List ℕ) (t : ℕ) (s : List ℕ) → AreKeeping S f
    → ((x : List ℕ) → S x → compose f t x ≡ s) → (d : ℕ) (x : List ℕ) → S x → compose f (d + t) x ≡ s
compose-more S f t s keeps met zero x member = rw zero-add (met x member)
compose-more S f t s keeps met (suc d) x member =
    rw suc-add (compose-more S f t s keeps met d (f (suc (d + t)) x) ((keeps.each (suc (d + t))).each x member))

-- where all states of a set meet at a horizon, they meet in the same state at every longer one
pub reached_from-later : (S : List ℕ → Type 0) (f : ℕ → List ℕ → List ℕ) (t : ℕ) (s : List ℕ) → AreKeeping S f
    → ((x : List ℕ) → S x → compose f t x ≡ s) → IsReachedFrom S f t s
reached_from-later S f t s keeps met = record {
  each = λ x earlier member later. rw (← sub-add_cancel later) (compose-more S f t s keeps met (earlier - t) x member);
}

-- so do all states
pub reached-later : (caps : List ℕ) (f : ℕ → List ℕ → List ℕ) (t : ℕ) (s : List ℕ) → AreClosed caps f
    → ((x : List ℕ) → IsBelow x caps → compose f t x ≡ s) → IsReached f caps t s
reached-later caps f t s closed met = reached_from-later (Below caps) f t s (closed-keeping caps f closed) met

-- under monotone events all states have met where the least and the greatest have
pub corners-meet : (caps : List ℕ) (f : ℕ → List ℕ → List ℕ) (t : ℕ) (s : List ℕ) → AreClosed caps f → AreMonotone caps f
    → compose f t (zeros caps) ≡ s → compose f t caps ≡ s → single (image_at f caps t) ≡ Some s
corners-meet caps f t s closed mono low high = single-image (compose f t) s caps (all_states caps) (In-caps caps)
    (λ x member. (let within = In-of_all_states caps x member in
    let above : IsBelow (compose f t (zeros caps)) (compose f t x) = compose-monotone caps f closed mono t (zeros caps) x within (zeros-below caps x within.same_length) in
    let below : IsBelow (compose f t x) (compose f t caps) = compose-monotone caps f closed mono t x caps (below-itself caps) within in
    same-from_below (compose f t x) s (subst (λ (y : List ℕ). IsBelow (compose f t x) y) high below) (subst (λ (y : List ℕ). IsBelow y (compose f t x)) low above)))

-- and they haven't where those two are apart
pub corners-apart : (caps : List ℕ) (f : ℕ → List ℕ → List ℕ) (t : ℕ)
    → (compose f t (zeros caps) ≡ compose f t caps → ⊥) → single (image_at f caps t) ≡ None
corners-apart caps f t apart = grind (arith, common_steps, single-apart, In-image, In-zeros, In-caps)
