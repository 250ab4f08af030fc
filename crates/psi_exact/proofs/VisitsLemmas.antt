-- The states within some capacities one after another, each with a fact that it has once it was visited.
use Rattle.std.specs.Prelude.{◌≡◌, ℕ, List, [], ◌∷◌, ◌⊎◌, refl}
use Rattle.std.proofs.Common.{arith, inl, ap, sym, ◌∙◌, subst}
use Rattle.std.proofs.lemmas.Grind.{common_steps}
use Rattle.psi_state.specs.State.{IsBelow, Corners, zeros, box}
use Rattle.psi_state.specs.Members.{In}
use Rattle.psi_state.proofs.BoxesLemmas.{In-all_states, In-of_all_states}

-- what is left are states within the capacities, and each of these is left or has the fact
pub record AreVisited (caps : List ℕ) (P : List ℕ → Type 0) (left : List (List ℕ)) : Type 0 where
  pub within : (x : List ℕ) → In x left → IsBelow x caps
  pub each : (x : List ℕ) → IsBelow x caps → In x left ⊎ P x

-- none of the states of the whole box is visited yet
pub visits-begin : (caps : List ℕ) (P : List ℕ → Type 0) (b : Corners) (items left : List (List ℕ)) → left ≡ items → items ≡ box b.lo b.hi
    → b ≡ record { lo = zeros caps; hi = caps } → AreVisited caps P left
visits-begin caps P b items left gives states whole =
    subst (λ (xs : List (List ℕ)). AreVisited caps P xs) (sym (gives ∙ (states ∙ ap (λ (c : Corners). box c.lo c.hi) whole)))
    (record { within = λ x member. In-of_all_states caps x member; each = λ x within. inl (In-all_states caps x within) })

pub visits-first : (caps : List ℕ) (P : List ℕ → Type 0) (x : List ℕ) (left rest : List (List ℕ)) → AreVisited caps P left → left ≡ x ∷ rest → IsBelow x caps
visits-first caps P x left rest visited is = visited.within x (subst (λ (xs : List (List ℕ)). In x xs) (sym is) (inl refl))

-- one state more has the fact, and the others have it still
pub visits-next : (caps : List ℕ) (P Q : List ℕ → Type 0) (x : List ℕ) (left rest : List (List ℕ)) → AreVisited caps P left → left ≡ x ∷ rest → Q x
    → ((y : List ℕ) → IsBelow y caps → P y → Q y) → AreVisited caps Q rest
visits-next caps P Q x left rest visited is here kept = grind (arith, common_steps)

-- where no state is left, each has it
pub visits-end : (caps : List ℕ) (P : List ℕ → Type 0) (left : List (List ℕ)) → AreVisited caps P left → left ≡ [] → (x : List ℕ) → IsBelow x caps → P x
visits-end caps P left visited is x within = grind (arith, common_steps)
