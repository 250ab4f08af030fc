-- What has no value is none.
use Rattle.std.specs.Prelude.{◌≡◌, Option, Some, None, refl}

pub none-without : {A : Type 0} (o : Option A) → ((a : A) → o ≡ Some a → ⊥) → o ≡ None
none-without None never = refl
none-without (Some a) never = absurd (never a refl)
