-- What a shelf is asked for over a call.
use Rattle.std.specs.Prelude.{◌≡◌, ℕ, ◌≤◌, ◌⊎◌, List, [], ◌∷◌, ◌++◌, map, Option, Result, IsOk, IfSome, true, false}
use Rattle.psi_io.specs.Shelf.{Read, Given, AgreesSince}
use Rattle.psi_program.specs.Seen.{ShelfSeen, IsUnread, HasAsked}
use Rattle.psi_report.specs.Contents.{Contents}
use Rattle.psi_merge.specs.declared.status.Status.{Status}
use Rattle.psi_merge.specs.declared.status.Status.TheVariants.{Done}
use Rattle.psi_merge.specs.Reply.{Reply, are_files, whole_of}

-- the read of a file: a report may have 1,048,576 bytes
abbrev pub read_of : List ℕ → Read
read_of name = record { name = name; most = 1048576 }

-- the shelf's file of this name is read once, by what is told of the shelf before and after; where the shelf gives it, the read is fine
pub record ReadsOnce {F : Type 0} (told_of : F → List ℕ → Option (List ℕ)) (gave_of : F → List Given) (given_by : F → List ℕ → Type 0) (asked_of : F → List Read)
    (faults_of : F → List ℕ → ℕ) (before after : F) (name : List ℕ) (IsFine : Type 0) : Type 0 where
  -- the answers agree with what the shelf's model has
  pub agrees : AgreesSince (told_of before) (gave_of before) (gave_of after)
  -- where the shelf gives the file, no read of it failed, and no count rose
  pub read : given_by before name → IsFine
  pub spared : given_by before name → faults_of after ≡ faults_of before
  -- the file is read with its limit
  pub asked : asked_of after ≡ asked_of before ++ read_of name ∷ []
  -- what the shelf's model has and what the shelf gives stay as they were, and no count fell
  pub same : told_of after ≡ told_of before
  pub gives : (other : List ℕ) → given_by before other → given_by after other
  pub counts : (other : List ℕ) → faults_of before other ≤ faults_of after other

-- one of the names, and those before it have a report together, where it is known what is found of them
pub record IsNext (found : List (List ℕ) → Option (Result Contents Reply)) (names : List (List ℕ)) (name : List ℕ) : Type 0 where
  pub before : List (List ℕ)
  pub behind : List (List ℕ)
  pub place : before ++ name ∷ behind ≡ names
  pub merged : IfSome (found before) IsOk

-- the shelf was asked for the names up to one, each before which has a report with those before it
pub record HasAskedTo (shelf : ShelfSeen) (found : List (List ℕ) → Option (Result Contents Reply)) (names : List (List ℕ)) : Type 0 where
  pub name : List ℕ
  pub next : IsNext found names name
  pub asked : HasAsked shelf (map read_of (next.before ++ name ∷ []))

-- the words are files, and this one is needed: those before it are accepted and merged, where the shelf's model has them
pub record IsNeeded (told : List ℕ → Option (List ℕ)) (words : List (List ℕ)) (name : List ℕ) : Type 0 where
  pub files : are_files words ≡ true
  pub next : IsNext (whole_of told) words name

-- the last file that was read is needed, and a read of it failed
pub record HasUnread (shelf : ShelfSeen) (words : List (List ℕ)) : Type 0 where
  pub files : are_files words ≡ true
  pub last : HasAskedTo shelf (whole_of shelf.told) words
  pub unread : IsUnread shelf last.name

-- the shelf was asked for files up to one that is needed; where the call is done, for all
pub record HasAskedFor (shelf : ShelfSeen) (words : List (List ℕ)) (status : Status) : Type 0 where
  pub files : are_files words ≡ true
  pub last : HasAskedTo shelf (whole_of shelf.told) words
  pub all : status ≡ Done → last.next.behind ≡ []

-- what the shelf was asked for in a call that ends with this status: nothing, where the words aren't files, and else the files that are needed
abbrev pub AreAsked : ShelfSeen → List (List ℕ) → Status → Type 0
AreAsked shelf words status = ((are_files words ≡ false) × HasAsked shelf []) ⊎ HasAskedFor shelf words status
