-- A set whose states are within capacities stays so.
use Rattle.std.proofs.Common.{◌≡◌, ℕ, List, ◌∷◌, inl, inr, ap, sym, ◌∙◌, subst, refl}
use Rattle.psi_state.specs.State.{IsBelow, box, zeros, Corners}
use Rattle.psi_state.specs.Members.{In}
use Rattle.psi_state.proofs.BoxesLemmas.{In-of_all_states}
use Rattle.psi_state.specs.Sets.{insert_state, image}
use Rattle.psi_state.proofs.SetsLemmas.{In-of_insert_state, In-of_image}
use Rattle.psi_event.specs.Law.{IsClosed}

pub within-inserted : (caps x : List ℕ) (old new : List (List ℕ)) → new ≡ insert_state x old → IsBelow x caps
    → ((z : List ℕ) → In z old → IsBelow z caps) → (z : List ℕ) → In z new → IsBelow z caps
within-inserted caps x old new is state each z member =
    elim (In-of_insert_state z x old (subst (λ (xs : List (List ℕ)). In z xs) is member)) [
      | inl e ↦ subst (λ (y : List ℕ). IsBelow y caps) (sym e) state
      | inr there ↦ each z there
    ]

pub within-moved : (caps own : List ℕ) (f : List ℕ → List ℕ) (old new : List (List ℕ)) → new ≡ image f old → own ≡ caps → IsClosed own f
    → ((z : List ℕ) → In z old → IsBelow z caps) → (z : List ℕ) → In z new → IsBelow z caps
within-moved caps own f old new is same closed each z member =
    let found = In-of_image f z old (subst (λ (xs : List (List ℕ)). In z xs) is member) in
    let before : IsBelow found.0 own = subst (λ (c : List ℕ). IsBelow found.0 c) (sym same) (each found.0 found.1) in
    subst (λ (y : List ℕ). IsBelow y caps) (sym found.2) (subst (λ (c : List ℕ). IsBelow (f found.0) c) same (closed.each found.0 before))

-- the states of a whole box that are still to come
pub within-box : (caps : List ℕ) (b : Corners) (states : List (List ℕ)) → states ≡ box b.lo b.hi → b ≡ record { lo = zeros caps; hi = caps }
    → (z : List ℕ) → In z states → IsBelow z caps
within-box caps b states is whole z member =
    In-of_all_states caps z (subst (λ (xs : List (List ℕ)). In z xs) (is ∙ ap (λ (c : Corners). box c.lo c.hi) whole) member)

pub within-next : (caps x : List ℕ) (states rest : List (List ℕ)) → states ≡ x ∷ rest → ((z : List ℕ) → In z states → IsBelow z caps)
    → (z : List ℕ) → In z rest → IsBelow z caps
within-next caps x states rest is each z member = each z (subst (λ (xs : List (List ℕ)). In z xs) (sym is) (inr member))

pub within-first : (caps x : List ℕ) (states rest : List (List ℕ)) → states ≡ x ∷ rest → ((z : List ℕ) → In z states → IsBelow z caps) → IsBelow x caps
within-first caps x states rest is each = each x (subst (λ (xs : List (List ℕ)). In x xs) (sym is) (inl refl))
