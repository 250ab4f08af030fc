-- The text of a reward's value.
use Rattle.std.specs.Prelude.{ℕ, ◌^◌, ◌≤◌, List, ◌++◌, codes}
use Rattle.std.specs.Fmt.{decimal, signed_decimal}
use Rattle.psi_couple.specs.declared.answers.Valued.{Valued}
use Rattle.psi_couple.specs.declared.answers.Valued.TheVariants.{At, NotAt}

-- the horizon and the value, or the greatest horizon within which there is none
unfoldable pub value_text : Valued → List ℕ
value_text (At horizon value) = codes "reward-met " ++ decimal horizon ++ codes "\nvalue " ++ signed_decimal value ++ codes "\n"
value_text (NotAt limit) = codes "reward not coupled within " ++ decimal (2 ^ limit) ++ codes "\n"

-- the exponent of a greatest horizon is at most 22
abbrev pub HasLimit : Valued → Type 0
HasLimit (At horizon value) = Unit {0}
HasLimit (NotAt limit) = limit ≤ 22
