-- The refusals of a text as a log, and what a function that reads may answer.
use Rattle.std.specs.Prelude.{◌≡◌, ℕ, List, [], ◌∷◌, Bool, true, false, Result, Ok, Err}
use Rattle.psi_log_words.specs.declared.refusals.LogCause.{LogCause}
use Rattle.psi_log_words.specs.declared.refusals.LogCause.TheVariants.{NotLog, Version, Number, Shape, Truncated, TrailingText, TooLong}
use Rattle.psi_log_words.specs.declared.refusals.LogError.{LogError}
use Rattle.psi_log_words.specs.declared.refusals.LogError.TheVariants.{Refused, OutOfMemory}

-- the number of a cause
abbrev pub code_of : LogCause → ℕ
code_of NotLog = 1
code_of Version = 2
code_of Number = 3
code_of Shape = 4
code_of Truncated = 5
code_of TrailingText = 6
code_of TooLong = 7

-- a line that is refused, counted from 1, or 0 for the text as a whole, and the number of the cause
pub record Refusal : Type 0 where
  pub line : ℕ
  pub cause : ℕ

-- the refusal of a line
abbrev pub refused : ℕ → LogCause → Refusal
refused n cause = record { line = n; cause = code_of cause }

-- one reading after another: the first refusal is the answer
infixl 10 ◌>>=◌
abbrev pub ◌>>=◌ : {A B : Type 0} → Result A Refusal → (A → Result B Refusal) → Result B Refusal
(Ok x) >>= f = f x
(Err refusal) >>= f = Err refusal

-- a reading that gives nothing but that its rule holds
abbrev pub holds_or : Refusal → Bool → Result (Unit {0}) Refusal
holds_or refusal true = Ok tt
holds_or refusal false = Err refusal

-- the readings of the members of a list, from the left
unfoldable pub each : {A B : Type 0} → (A → Result B Refusal) → List A → Result (List B) Refusal
each reading [] = Ok []
each reading (a ∷ rest) = do
  b ← reading a
  bs ← each reading rest
  Ok (b ∷ bs)

-- what an error says of what it read: a refusal is the reading's own, want of memory says nothing
abbrev pub IsLogError : {Y : Type 0} → LogError → Result Y Refusal → Type 0
IsLogError (Refused line cause) reading = reading ≡ Err (record { line = line; cause = cause })
IsLogError OutOfMemory reading = Unit {0}

-- the answer, seen by view, is the reading's, unless an allocation fails
abbrev pub Gives : {X Y : Type 0} → (X → Y) → Result X LogError → Result Y Refusal → Type 0
Gives view (Ok x) reading = reading ≡ Ok (view x)
Gives view (Err error) reading = IsLogError error reading
