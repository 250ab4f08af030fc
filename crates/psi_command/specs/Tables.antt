-- The table of samples that words ask for.
use Rattle.std.specs.Prelude.{◌≡◌, ℕ, ◌+◌, ◌^◌, ◌≤◌, List, codes, drop, Bool, true, false, Option, Some, None, IfSome, Result, Ok, Err, MatchResult}
use Rattle.psi_command.specs.Words.{greatest_number, text_word, number_word, count_word, last_word, no_word}
use Rattle.psi_command.specs.declared.table.Table.{Table as Own}

-- a table of the samples of the network in this file: the seed, the first stream, the number of streams, and of a closed network the
-- number of customers in all
pub record Table : Type 0 where
  pub net : List ℕ
  pub seed : ℕ
  pub first : ℕ
  pub count : ℕ
  pub total : Option ℕ

-- what follows, once words before it are read; or the place of the word that offends among these
abbrev pub then_read : {A B : Type 0} → (A → Result B ℕ) → Result A ℕ → Result B ℕ
then_read next (Ok asked) = next asked
then_read next (Err place) = Err place

-- the words with which a table begins: NET, SEED, FIRST and COUNT, at most 2^32 - 1
unfoldable pub first_words : List (List ℕ) → Result Table ℕ
first_words =
    text_word (λ net. number_word greatest_number (λ seed. number_word greatest_number (λ first. count_word 4294967295 first
    (λ count place words. Ok (record { net = net; seed = seed; first = first; count = count; total = None }))))) 1

-- what stands behind the numbers: nothing, or after `closed` the number of customers
abbrev pub closing : Bool → ℕ → List (List ℕ) → Result (Option ℕ) ℕ
closing false = no_word None
closing true = number_word 256 (λ total. no_word (Some total))

-- the words that may stand there, from this place on, or the place of the one that offends
unfoldable pub last_words : ℕ → List (List ℕ) → Result (Option ℕ) ℕ
last_words = last_word (codes "closed") closing

-- the words of a table: those with which it begins, and of a closed network `closed` and TOTAL; or the place of the word that offends
unfoldable pub table_of : List (List ℕ) → Result Table ℕ
table_of words =
    then_read (λ table. then_read (λ total. Ok (record table { total = total })) (last_words 5 (drop 4 words))) (first_words words)

-- the program's own table, as the definition's
abbrev pub table_asked : Own → Table
table_asked own = record { net = own.net.now; seed = own.seed; first = own.first; count = own.count; total = own.total }

-- its numbers are in their ranges
pub record IsTableInRange (own : Own) : Type 0 where
  pub some : 1 ≤ own.count
  pub streams : own.first + own.count ≤ 2 ^ 64
  pub total : IfSome own.total (λ total. total ≤ 256)

-- the answer is the table, or the place of the word that offends
abbrev pub GivesTable : Result Own ℕ → Result Table ℕ → Type 0
GivesTable result table = MatchResult result (λ own. table ≡ Ok (table_asked own)) (λ place. table ≡ Err place)
