-- What stands in a text from a place on.
use Rattle.std.specs.Prelude.{◌≡◌, ℕ, ◌<◌, ◌≤◌, ◌^◌, List, [], ◌∷◌, ◌++◌, length, map, take, drop, true, Option, Result}
use Rattle.std.specs.List.{list_all, flat_map}
use Rattle.std.specs.Fmt.{decimal}
use Rattle.psi_state.specs.State.{Corners}
use Rattle.psi_state.specs.Members.{In}
use Rattle.psi_log_format.specs.declared.header.Header.{Header}
use Rattle.psi_log_format.specs.Log.{Entry, in_set, IsState, IsSet}
use Rattle.psi_log_format.specs.Text.{numbers_text, region_words, Change, change_text}
use Rattle.psi_log_format.specs.Room.{Puts, spaced_words}
use Rattle.psi_log_words.specs.Refusal.{Refusal}
use Rattle.psi_log_words.specs.Regions.{queues_ascend, is_change, changed}
use Rattle.psi_log_scan.specs.Lines.{read_line, read_step}

-- the words stand in the text from one place to another
abbrev pub Stands : List ℕ → ℕ → ℕ → List ℕ → Type 0
Stands text at end word = Puts text text at end word

-- a number with a comma after it
abbrev pub with_comma : ℕ → List ℕ
with_comma n = decimal n ++ (44 ∷ [])

-- numbers, each with a comma after it
unfoldable pub with_commas : List ℕ → List ℕ
with_commas numbers = flat_map with_comma numbers

-- the states that were put after the old ones are of so many queues, and stand in the text from one place to another, each preceded by a space
pub record AreScanned (queues : ℕ) (text : List ℕ) (at end : ℕ) (old new : List (List ℕ)) : Type 0 where
  pub kept : take (length old) new ≡ old
  pub more : length old ≤ length new
  pub each : (x : List ℕ) → In x (drop (length old) new) → IsState queues x
  pub words : Stands text at end (spaced_words (map numbers_text (drop (length old) new)))

-- the end of a line, from after its event on, that tells these states of so many queues as a set
pub record TellsSet (queues : ℕ) (line : List ℕ) (xs : List (List ℕ)) : Type 0 where
  pub set : IsSet queues xs
  pub words : line ≡ spaced_words (region_words (in_set xs)) ++ (10 ∷ [])

-- changes that make a box of another stand in the text from one place to another, each preceded by a space
pub record AreChanged (queues : ℕ) (from : Corners) (text : List ℕ) (at end : ℕ) (to : Corners) : Type 0 where
  pub changes : List Change
  pub few : length changes ≤ queues
  pub each : (c : Change) → In c changes → (c.queue < queues) × (c.least < 2 ^ 16) × (c.greatest < 2 ^ 16)
  pub ascend : queues_ascend changes ≡ true
  pub differ : list_all (is_change from) changes ≡ true
  pub made : to ≡ changed from changes
  pub words : Stands text at end (spaced_words (map change_text changes))

-- line n, where it is that of a step and begins the text, and what follows it
unfoldable pub next_step : Header → ℕ → Option Corners → List ℕ → Result (Entry × List ℕ) Refusal
next_step h n before text = read_line n (read_step h n before) text
