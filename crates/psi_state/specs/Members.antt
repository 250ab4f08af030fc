-- Membership in a list, by recursion, with its laws for the lists that states are gathered in.
use Rattle.std.specs.Prelude.{◌≡◌, List, [], ◌∷◌, ◌⊎◌}

-- x stands in the list
abbrev pub In : {A : Type 0} → A → List A → Type 0
In x [] = ⊥
In x (y ∷ ys) = (x ≡ y) ⊎ In x ys

-- each member of the first list is one of the second
pub record AreAmong {A : Type 0} (xs ys : List A) : Type 0 where
  pub each : (x : A) → In x xs → In x ys
