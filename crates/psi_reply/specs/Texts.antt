-- The texts of samples and of logs that are accepted, byte by byte, and what they are made of. Each line ends with one line feed.
use Rattle.std.specs.Prelude.{ℕ, ◌^◌, ◌≤◌, List, ◌++◌, codes}
use Rattle.std.specs.Fmt.{decimal}
use Rattle.psi_state.specs.declared.Outcome.{Outcome}
use Rattle.psi_state.specs.declared.Outcome.TheVariants.{Met, NotMet}
use Rattle.psi_log_format.specs.Text.{numbers_text}

-- a word and a number
unfoldable pub number_line : List ℕ → ℕ → List ℕ
number_line word n = word ++ decimal n ++ codes "\n"

-- a state's numbers in the queues' order, joined by commas
abbrev pub state_text : List ℕ → List ℕ
state_text state = numbers_text state

-- the horizon and the state of a sample, or the greatest horizon within which it isn't met
unfoldable pub outcome_text : Outcome → List ℕ
outcome_text (Met horizon state) =
    codes "met " ++ decimal horizon ++ codes "\nstate " ++ state_text state ++ codes "\n"
outcome_text (NotMet limit) = codes "not coupled within " ++ decimal (2 ^ limit) ++ codes "\n"

-- the exponent of a greatest horizon is at most 22
abbrev pub IsWithinLimit : Outcome → Type 0
IsWithinLimit (Met horizon state) = Unit {0}
IsWithinLimit (NotMet limit) = limit ≤ 22

-- the horizon and the state of a log that is accepted
unfoldable pub accepted_text : (horizon : ℕ) (state : List ℕ) → List ℕ
accepted_text horizon state = codes "accepted " ++ decimal horizon ++ codes "\nstate " ++ state_text state ++ codes "\n"
