-- A run of a program, by what crossed its edges: the words, the answers of the shelf, and the bytes that out and err accepted.
use Rattle.std.specs.Prelude.{◌≡◌, ℕ, List, [], ◌++◌, Option, Some, ◌⊎◌}
use Rattle.std.specs.List.{AllByRecursion}
use Rattle.psi_io.specs.Shelf.{Read, Given, IsPrefixIn}
use Rattle.psi_program.specs.Seen.{SinkSeen}
use Rattle.psi_program.specs.Call.{Call}

-- what was counted up to some point: the reads that were asked for, and the faults of each name, of out and of err
pub record Tally : Type 0 where
  pub asked : List Read
  pub files : List ℕ → ℕ
  pub out : ℕ
  pub err : ℕ

-- the tally before the first read and the first write
abbrev pub no_tally : Tally
no_tally = record { asked = []; files = λ name. 0; out = 0; err = 0 }

-- what crossed up to some point: the answers that the shelf gave, the bytes that out and err accepted, and the tally
pub record Crossed : Type 0 where
  pub gave : List Given
  pub out : List ℕ
  pub err : List ℕ
  pub tally : Tally

-- a run: its words, the answers that it was given, the bytes that out and err accepted, the tallies before and after it, and its exit status
pub record Run : Type 0 where
  pub words : List (List ℕ)
  pub given : List Given
  pub out : List ℕ
  pub err : List ℕ
  pub before : Tally
  pub after : Tally
  pub status : ℕ

-- what crossed between two points is a run of this kind, on these words and with this status
pub record HasRun (Is : Run → Type 0) (words : List (List ℕ)) (before after : Crossed) (status : ℕ) : Type 0 where
  pub given : List Given
  pub out : List ℕ
  pub err : List ℕ
  pub gave : after.gave ≡ before.gave ++ given
  pub printed : after.out ≡ before.out ++ out
  pub reported : after.err ≡ before.err ++ err
  pub is : Is (record { words = words; given = given; out = out; err = err; before = before.tally; after = after.tally; status = status })

-- the system could not give the words: there was no memory for them, or they are not UTF-8
abbrev pub IsWordless : ℕ → Type 0
IsWordless status = (status ≡ 8) ⊎ (status ≡ 13)

-- a program was started: there were no words and nothing crossed, or what crossed is a run of it on some words
pub data IsStarted (Is : Run → Type 0) (before after : Crossed) (status : ℕ) : Type 0 where
  wordless : IsWordless status → after ≡ before → IsStarted Is before after status
  ran : (words : List (List ℕ)) → HasRun Is words before after status → IsStarted Is before after status

-- a process ended with this status: there were no words, or it is a run from the first read and the first write on
abbrev pub HasEnded : (Run → Type 0) → ℕ → Type 0
HasEnded Is status = IsWordless status ⊎ ((run : Run) × Is run × (run.before ≡ no_tally) × (run.status ≡ status))

-- the answers of a run are prefixes of what the files hold, if they hold what is told
abbrev pub Agrees : (List ℕ → Option (List ℕ)) → List Given → Type 0
Agrees told given = AllByRecursion (IsPrefixIn told) given

-- a sink that held nothing and accepted this text, with these counts of faults before and after
abbrev pub from_nothing : List ℕ → ℕ → ℕ → SinkSeen
from_nothing text before after = record { before = Some []; after = Some text; took_before = []; took_after = text; faults_before = before; faults_after = after }

-- the call that a run is, if the files hold what is told
abbrev pub call_of : (List ℕ → Option (List ℕ)) → Run → Call
call_of told run = record {
  words = run.words;
  shelf = record { told = told; asked_before = run.before.asked; asked_after = run.after.asked; faults_before = run.before.files; faults_after = run.after.files };
  out = from_nothing run.out run.before.out run.after.out;
  err = from_nothing run.err run.before.err run.after.err;
}

-- a run of a program with these exit statuses: it has a status, and is right whatever the files hold of which the answers are prefixes
pub record IsRunBy {Status : Type 0} (code_of : Status → ℕ) (IsRight : (List ℕ → Option (List ℕ)) → Run → Status → Type 0) (run : Run) : Type 0 where
  pub result : Status
  pub code : code_of result ≡ run.status
  pub right : (told : List ℕ → Option (List ℕ)) → Agrees told run.given → IsRight told run result
