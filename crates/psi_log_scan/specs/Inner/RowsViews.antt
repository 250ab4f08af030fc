-- What is read of a set's states one after another, where the words of some differ in one number.
use Rattle.std.specs.Prelude.{◌≡◌, ◌⊎◌, ℕ, ◌+◌, ◌-◌, ◌<◌, ◌≤◌, ◌^◌, List, [], ◌∷◌, ◌++◌, length, slice_index, slice_index_or, slice_set, take, drop, decimal, true, false}
use Rattle.psi_log_format.specs.Text.{numbers_text}
use Rattle.psi_log_words.specs.Regions.{ascends}
use Rattle.psi_log_scan.specs.declared.runs.Run.{Run}
use Rattle.psi_log_scan.specs.Scanned.{Stands, AreScanned}

-- the first bytes of a text from a place on are a run's, wherever its words have the same
abbrev pub IsAlike : List ℕ → ℕ → Run → ℕ → Type 0
IsAlike text at run count = (i : ℕ) → i < count → slice_index_or run.same i false ≡ true → slice_index text (at + i) ≡ slice_index run.bytes i

-- a run's bytes make the row's word after a space, with whatever number in its queue, and are the same but for that number
pub record IsRun (row : List ℕ) (run : Run) : Type 0 where
  pub queue : run.queue < length row
  pub number : 1 ≤ run.width
  pub word : run.from + run.width ≤ run.len
  pub few : run.len < 128
  pub bytes : length run.bytes ≡ 128
  pub same : (i : ℕ) → i < run.len → (i < run.from) ⊎ (run.from + run.width ≤ i) → slice_index_or run.same i false ≡ true
  pub words : (n : ℕ) → take run.from run.bytes ++ (decimal n ++ take (run.len - (run.from + run.width)) (drop (run.from + run.width) run.bytes)) ≡ 32 ∷ numbers_text (slice_set row run.queue n)

-- the row is the last of the states
abbrev pub EndsIn : List (List ℕ) → List ℕ → Type 0
EndsIn states row = drop (length states - 1) states ≡ row ∷ []

-- the row stands in the text from one place to another, and was put after the old states, above the last of them from the first place on
pub record IsNextRow (first : ℕ) (text : List ℕ) (at end : ℕ) (row : List ℕ) (old new : List (List ℕ)) : Type 0 where
  pub within : end ≤ length text
  pub there : Stands text at end (numbers_text row)
  pub range : (i : ℕ) → slice_index row i < 2 ^ 16
  pub states : new ≡ old ++ row ∷ []
  pub order : first < length old → ascends (drop (length old - 1) new) ≡ true

-- the states that were put after the old ones stand in the text from one place to another, each preceded by a space, and are in order after the last one
pub record IsRead (queues : ℕ) (text : List ℕ) (at end : ℕ) (old new : List (List ℕ)) : Type 0 where
  pub within : end ≤ length text
  pub more : length old ≤ length new
  pub rows : (begin : ℕ) (first : List (List ℕ)) → AreScanned queues text begin at first old → AreScanned queues text begin end first new
  pub order : (first : ℕ) → first < length old → ascends (drop first old) ≡ true → ascends (drop first new) ≡ true
