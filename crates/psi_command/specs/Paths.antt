-- The paths that words ask for.
use Rattle.std.specs.Prelude.{◌≡◌, ℕ, ◌≤◌, List, drop, Result, Ok, Err, MatchResult}
use Rattle.psi_command.specs.Words.{number_word}
use Rattle.psi_command.specs.Tables.{Table, then_read, first_words, last_words, table_asked, IsTableInRange}
use Rattle.psi_command.specs.declared.paths.Paths.{Paths as Own}

-- paths of so many steps, which begin in the samples of a table
pub record Paths : Type 0 where
  pub table : Table
  pub steps : ℕ

-- the most steps of a path: the word of its last one stands at place 2^32 - 1
abbrev pub most_steps : ℕ
most_steps = 4290772992

-- the words of paths: those with which a table begins, STEPS, at most 2^32 - 2^22, and of a closed network `closed` and TOTAL; or the place
-- of the word that offends
unfoldable pub paths_of : List (List ℕ) → Result Paths ℕ
paths_of words = then_read (λ table. number_word most_steps (λ steps place rest.
    then_read (λ total. Ok (record { table = record table { total = total }; steps = steps })) (last_words place rest)) 5 (drop 4 words)) (first_words words)

-- the program's own paths, as the definition's
abbrev pub paths_asked : Own → Paths
paths_asked own = record { table = table_asked own.table; steps = own.steps }

-- their numbers are in their ranges
pub record ArePathsInRange (own : Own) : Type 0 where
  pub table : IsTableInRange own.table
  pub few : own.steps ≤ most_steps

-- the answer is the paths, or the place of the word that offends
abbrev pub GivesPaths : Result Own ℕ → Result Paths ℕ → Type 0
GivesPaths result paths = MatchResult result (λ own. paths ≡ Ok (paths_asked own)) (λ place. paths ≡ Err place)
