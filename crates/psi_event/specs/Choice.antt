-- Choosing by place: a list from a number for each place, and finding the place at which something fails.
use Rattle.std.specs.Prelude.{ℕ, zero, suc, Option, Some, None}

-- the first of two answers that is there
abbrev pub first_or : {A : Type 0} → Option A → Option A → Option A
first_or (Some a) other = Some a
first_or None other = other

-- the first answer of a function on n numbers one after another, from the first on
unfoldable pub first_some : {A : Type 0} → (ℕ → Option A) → ℕ → ℕ → Option A
first_some f first zero = None
first_some f first (suc n) = first_or (f first) (first_some f (suc first) n)
