-- What a shelf in memory is: its files with their counts, and which reads fail.
use Rattle.std.specs.Prelude.{◌≡◌, ◌≢◌, ℕ, ◌⊎◌, Bool, if◌then◌else◌, List, [], ◌∷◌, ◌++◌, ◌+◌, length, take, Option, None, find, option_map, Contains}
use Rattle.std.specs.Option.{option_map_or}
use Rattle.std.specs.Str.{bytes_eq}
use Rattle.psi_io.specs.Counts.{counted}
use Rattle.psi_io.specs.Shelf.{Read, Given}

-- a file of the shelf: its name, its bytes, and the count of its failed reads
pub record ShelfFile : Type 0 where
  pub name : List ℕ
  pub bytes : List ℕ
  pub count : ℕ

-- a shelf in memory: its files, the count that all names share that aren't there, the reads that
-- it was asked for and the answers that it gave, oldest first, and the numbers of the reads that fail
pub record ShelfContents : Type 0 where
  pub files : List ShelfFile
  pub absent : ℕ
  pub asked : List Read
  pub gave : List Given
  pub fails : List ℕ

-- whether a file has this name
abbrev pub has_name : List ℕ → ShelfFile → Bool
has_name name file = bytes_eq file.name name

-- the first file of a name, changed
abbrev pub changed : (ShelfFile → ShelfFile) → List ℕ → List ShelfFile → List ShelfFile
changed change name [] = []
changed change name (file ∷ files) =
    if has_name name file then change file ∷ files else file ∷ changed change name files

-- a file after one more failed read
abbrev pub with_fault : ShelfFile → ShelfFile
with_fault file = record file { count = counted file.count }

-- a file with other bytes
abbrev pub with_bytes : List ℕ → ShelfFile → ShelfFile
with_bytes bytes file = record file { bytes = bytes }

-- a shelf and a name
module _ (shelf : ShelfContents) (name : List ℕ) where
  -- the file of a name
  abbrev pub file_of : Option ShelfFile
  file_of = find (has_name name) shelf.files

  -- the bytes of a name, where it is there
  abbrev pub told_of : Option (List ℕ)
  told_of = option_map (λ file. file.bytes) file_of

  -- the count of a name: its file's, or else the count of the names that aren't there
  abbrev pub faults_of : ℕ
  faults_of = option_map_or (λ file. file.count) file_of shelf.absent

  -- a read of a name fails: its number, one more than that of the last read, is to fail, or the name isn't there
  abbrev pub FailsToRead : Type 0
  FailsToRead = Contains shelf.fails (counted (length shelf.asked)) ⊎ (told_of ≡ None)

  -- no read of a name is to fail: it is there, and no number of a read is to fail
  pub record Gives : Type 0 where
    pub there : told_of ≢ None
    pub no_fails : shelf.fails ≡ []

  -- the reads that it was asked for, once it is asked for this name too
  abbrev pub asked_after : ℕ → List Read
  asked_after most = shelf.asked ++ (record { name = name; most = most }) ∷ []

  -- the answers that it gave, once a read of this name succeeds too
  abbrev pub gave_after : ℕ → List Given
  gave_after most = shelf.gave ++ (record { name = name; most = most; bytes = option_map_or (take (most + 1)) told_of [] }) ∷ []

  -- the shelf after a read of a name that succeeds: one more read, and one more answer
  abbrev pub after_read : ℕ → ShelfContents
  after_read most = record shelf { asked = asked_after most; gave = gave_after most }

  -- the shelf after a read of a name for which an allocation failed: one more read
  abbrev pub after_refused_read : ℕ → ShelfContents
  after_refused_read most = record shelf { asked = asked_after most }

  -- the shelf after a read of a name that fails: one more read, and one more fault of the name
  abbrev pub after_failed_read : ℕ → ShelfContents
  after_failed_read most = record shelf {
    files = changed with_fault name shelf.files;
    absent = option_map_or (λ file. shelf.absent) file_of (counted shelf.absent);
    asked = asked_after most;
  }

  -- the shelf once bytes are put under a name: a name that wasn't there begins with the count of
  -- such names
  abbrev pub after_put : List ℕ → ShelfContents
  after_put bytes = record shelf {
    files = option_map_or (λ file. changed (with_bytes bytes) name shelf.files) file_of
        (shelf.files ++ (record { name = name; bytes = bytes; count = shelf.absent }) ∷ []);
  }
