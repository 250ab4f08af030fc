-- Ascending lists of states: a set has one such list, and a box is one.
use Rattle.std.specs.Prelude.{◌≡◌, ℕ, List, [], ◌∷◌}
use Rattle.std.specs.declared.cmp.Ordering.TheVariants.{Less}
use Rattle.psi_state.specs.Members.{In}
use Rattle.psi_state.specs.Sets.{state_cmp}

-- each state is lexicographically below all that come after it
abbrev pub IsRising : List (List ℕ) → Type 0
IsRising [] = Unit {0}
IsRising (x ∷ xs) = ((z : List ℕ) → In z xs → state_cmp x z ≡ Less) × IsRising xs

-- no member stands twice
abbrev pub IsDistinct : {A : Type 0} → List A → Type 0
IsDistinct [] = Unit {0}
IsDistinct (x ∷ xs) = (In x xs → ⊥) × IsDistinct xs

-- two lists have the same members
pub record HaveSame {A : Type 0} (xs ys : List A) : Type 0 where
  pub there : (x : A) → In x xs → In x ys
  pub back : (x : A) → In x ys → In x xs
