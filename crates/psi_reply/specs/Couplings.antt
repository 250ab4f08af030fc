-- The text of a least coupling.
use Rattle.std.specs.Prelude.{ℕ, ◌^◌, ◌≤◌, List, ◌++◌, codes}
use Rattle.std.specs.Fmt.{decimal}
use Rattle.psi_couple.specs.declared.answers.Coupled.{Coupled}
use Rattle.psi_couple.specs.declared.answers.Coupled.TheVariants.{At, NotAt}
use Rattle.psi_reply.specs.Texts.{state_text}

-- the exponent of a greatest horizon is at most 22
abbrev pub HasLimit : Coupled → Type 0
HasLimit (At horizon state) = Unit {0}
HasLimit (NotAt limit) = limit ≤ 22

-- the least horizon and its state, or the greatest horizon within which there is none
unfoldable pub coupling_text : Coupled → List ℕ
coupling_text (At horizon state) =
    codes "coupled " ++ decimal horizon ++ codes "\nstate " ++ state_text state ++ codes "\n"
coupling_text (NotAt limit) = codes "not coupled within " ++ decimal (2 ^ limit) ++ codes "\n"
