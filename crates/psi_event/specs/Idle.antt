-- The event that changes nothing.
use Rattle.std.specs.Prelude.{ℕ, List}

-- the state as it is
abbrev pub unchanged : List ℕ → List ℕ
unchanged x = x
