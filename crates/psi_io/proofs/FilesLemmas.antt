-- The files of a shelf in memory: the first of a name, and what a change of it leaves.
use Rattle.std.proofs.Common.{subst, ◌≡◌, ◌≢◌, ℕ, zero, suc, ◌^◌, ◌<◌, ◌≤◌, Bool, true, false, cond, List, [], ◌∷◌, ◌++◌, ◌+◌, length, set, get_or, take, Option, None, Some, Result, Ok, Err, refl, sym, ◌∙◌, ap, inl, inr, arith, eq-eqb}
use Rattle.std.specs.Prelude.{◌⊎◌, find, position, option_map, nat_eq, IfErr, IsErrOf}
use Rattle.std.specs.List.{list_any, position_or_len}
use Rattle.std.specs.Option.{option_map_or, option_or}
use Rattle.std.specs.Str.{bytes_eq}
use Rattle.std.proofs.Math.Path.{fun_ext}
use Rattle.std.proofs.lemmas.Bool.{cases_Bool}
use Rattle.std.proofs.lemmas.List.Folds.{find_at, find-append, list_any_at}
use Rattle.std.proofs.lemmas.Iterator.Adapters.{option_map_id}
use Rattle.std.proofs.lemmas.Option.{slice_get_past}
use Rattle.std.proofs.lemmas.List.Quantifiers.{position-Some}
use Rattle.std.proofs.lemmas.List.Recursion.{found_at}
use Rattle.std.proofs.lemmas.Slice.Eq.{bytes_eq-Decides}
use Rattle.psi_io.specs.Counts.{counted}
use Rattle.psi_io.specs.MemoryShelf.{ShelfFile, ShelfContents, has_name, file_of, told_of, faults_of, changed, with_fault, with_bytes, FailsToRead, asked_after, after_read, after_put, after_failed_read}
use Rattle.psi_io.specs.declared.shelf.ShelfFault.{ShelfFault}
use Rattle.psi_io.specs.declared.shelf.ShelfFault.TheVariants.{Failed, OutOfMemory}

-- the file at the place of a name is the file of the name
pub find-at :
    (name : List ℕ) (files : List ShelfFile) (place : ℕ) (default : ShelfFile)
    → position (has_name name) files ≡ Some place → find (has_name name) files ≡ Some (get_or files place default)
find-at name files place default found =
    let at = position-Some (has_name name) files place default found in
    found_at (find (has_name name)) (has_name name) Some None refl (λ _ _. refl) files place default at.0 at.2 at.1

-- a name without a place has no file
pub find-none : (name : List ℕ) (files : List ShelfFile) → position (has_name name) files ≡ None → find (has_name name) files ≡ None
find-none name files none = find_at (has_name name) files ∙ slice_get_past files (position_or_len (has_name name) files) (grind arith)

-- where no file has a name, the changed files are the same
pub changed-none :
    (change : ShelfFile → ShelfFile) (name : List ℕ) (files : List ShelfFile)
    → find (has_name name) files ≡ None → changed change name files ≡ files
changed-none change name [] none = refl
changed-none change name (file ∷ files) none =
    elim (cases_Bool (has_name name file)) [
      | inl named ↦ absurd (let found = rw named at none in cc)
      | inr other ↦ let rest = rw other at none in rw other (ap (λ (fs : List ShelfFile). file ∷ fs) (changed-none change name files rest))
    ]

-- a write of the changed file at the place of the name changes the file of the name
changed-from :
    (change : ShelfFile → ShelfFile) (name : List ℕ) (files : List ShelfFile) (place : ℕ) (default : ShelfFile)
    → place < length files → has_name name (get_or files place default) ≡ true
    → ((k : ℕ) → k < place → has_name name (get_or files k default) ≡ false)
    → set files place (change (get_or files place default)) ≡ changed change name files
changed-from change name [] place default within named before = refl
changed-from change name (file ∷ files) zero default within named before = rw named refl
changed-from change name (file ∷ files) (suc place) default within named before =
    let first : has_name name file ≡ false = before zero (omega arith) in
    rw first (ap (λ (fs : List ShelfFile). file ∷ fs)
    (changed-from change name files place default (omega arith) named (λ k below. before (suc k) (omega arith))))

-- the same from the place that is found
pub changed-at :
    (change : ShelfFile → ShelfFile) (name : List ℕ) (files : List ShelfFile) (place : ℕ) (file : ShelfFile)
    → position (has_name name) files ≡ Some place → file ≡ get_or files place file
    → set files place (change file) ≡ changed change name files
changed-at change name files place file found is =
    let at = position-Some (has_name name) files place file found in
    ap (λ (f : ShelfFile). set files place (change f)) is ∙ changed-from change name files place file at.0 at.1 at.2

-- a change that keeps the names changes the file of its own name alone
pub find-changed :
    (change : ShelfFile → ShelfFile) → ((file : ShelfFile) → (change file).name ≡ file.name) → (name other : List ℕ) (files : List ShelfFile)
    → find (has_name other) (changed change name files) ≡ option_map (λ file. cond (bytes_eq name other) (change file) file) (find (has_name other) files)
find-changed change names name other [] = refl
find-changed change names name other (file ∷ files) =
    elim (cases_Bool (has_name name file)) [
      | inl named ↦ (let same = ap (λ (bytes : List ℕ). bytes_eq bytes other) ((bytes_eq-Decides file.name name).0 named) in
          let kept = ap (λ (bytes : List ℕ). bytes_eq bytes other) (names file) in
          elim (cases_Bool (bytes_eq name other)) [
            | inl own ↦ rw (named, kept, same, own) refl
            | inr misses ↦ rw (named, kept, same, misses) (sym (option_map_id (find (has_name other) files)))
          ])
      | inr past ↦ rw past (elim (cases_Bool (has_name other file)) [
        | inl own ↦ rw (own, apart file.name ((bytes_eq-Decides file.name other).0 own) past) refl
        | inr misses ↦ rw misses (find-changed change names name other files)
      ])
    ]
  where
    apart : (bytes : List ℕ) → bytes ≡ other → bytes_eq bytes name ≡ false → bytes_eq name other ≡ false
    apart bytes is past = elim (cases_Bool (bytes_eq name other)) [
      | inl own ↦ absurd (let same = (bytes_eq-Decides bytes name).1 (is ∙ sym ((bytes_eq-Decides name other).0 own)) in cc)
      | inr misses ↦ misses
    ]

-- a shelf whose file at a name's place has other bytes is the shelf once they are put
pub put-place :
    (shelf : ShelfContents) (name bytes : List ℕ) (place : ℕ) (file : ShelfFile)
    → position (has_name name) shelf.files ≡ Some place → file ≡ get_or shelf.files place file
    → record shelf { files = set shelf.files place (with_bytes bytes file) } ≡ after_put shelf name bytes
put-place shelf name bytes place file found is =
    rw (find-at name shelf.files place file found)
    (ap (λ (files : List ShelfFile). record shelf { files = files }) (changed-at (with_bytes bytes) name shelf.files place file found is))

-- a shelf with a new file is the shelf once its bytes are put
pub put-new :
    (shelf : ShelfContents) (name bytes : List ℕ) (file : ShelfFile)
    → position (has_name name) shelf.files ≡ None → file.name ≡ name → file.bytes ≡ bytes → file.count ≡ shelf.absent
    → record shelf { files = shelf.files ++ file ∷ [] } ≡ after_put shelf name bytes
put-new shelf name bytes file none names holds counts =
    let same : file ≡ record { name = name; bytes = bytes; count = shelf.absent } =
    λ i. record { name = names i; bytes = holds i; count = counts i } in
    rw (find-none name shelf.files none) (ap (λ (f : ShelfFile). record shelf { files = shelf.files ++ f ∷ [] }) same)

-- there is a file, or there is none
cases-file : (found : Option ShelfFile) → (found ≡ None) ⊎ ((file : ShelfFile) × (found ≡ Some file))
cases-file None = inl refl
cases-file (Some file) = inr (file, refl)

-- what is put under a name is told of it
pub told_after_put : (shelf : ShelfContents) (name bytes : List ℕ) → told_of (after_put shelf name bytes) name ≡ Some bytes
told_after_put shelf name bytes =
    let own : bytes_eq name name ≡ true = (bytes_eq-Decides name name).1 refl in
    elim (cases-file (file_of shelf name)) [
      | inl none ↦ rw (none, find-append (has_name name) shelf.files, none, own) refl
      | inr w ↦ rw (w.1, find-changed (with_bytes bytes) (λ _. refl) name name shelf.files, w.1, own) refl
    ]

-- nothing after a file
or-nothing : (found : Option ShelfFile) → option_or found None ≡ found
or-nothing found = grind arith

-- what is put under a name leaves the other names
pub others_after_put :
    (shelf : ShelfContents) (name bytes other : List ℕ)
    → other ≢ name → told_of (after_put shelf name bytes) other ≡ told_of shelf other
others_after_put shelf name bytes other apart =
    let misses : bytes_eq name other ≡ false = grind (arith, bytes_eq-Decides name other) in
    elim (cases-file (file_of shelf name)) [
      | inl none ↦ rw (none, find-append (has_name other) shelf.files, misses, or-nothing (find (has_name other) shelf.files)) refl
      | inr w ↦ rw (w.1, find-changed (with_bytes bytes) (λ _. refl) name other shelf.files, misses, option_map_id) refl
    ]

-- a file whose count is that of the names that aren't there changes no count, and neither do other bytes
count-or :
    (found : Option ShelfFile) (own : Bool) (file : ShelfFile)
    → option_map_or (λ (f : ShelfFile). f.count) (option_or found (cond own (Some file) None)) file.count
    ≡ option_map_or (λ (f : ShelfFile). f.count) found file.count
count-or found own file = grind arith

count-kept :
    (found : Option ShelfFile) (own : Bool) (bytes : List ℕ) (absent : ℕ)
    → option_map_or (λ (f : ShelfFile). f.count) (option_map (λ file. cond own (with_bytes bytes file) file) found) absent
    ≡ option_map_or (λ (f : ShelfFile). f.count) found absent
count-kept found own bytes absent = grind arith

-- what is put under a name leaves each count
pub counts_after_put :
    (shelf : ShelfContents) (name bytes other : List ℕ) → faults_of (after_put shelf name bytes) other ≡ faults_of shelf other
counts_after_put shelf name bytes other =
    elim (cases-file (file_of shelf name)) [
      | inl none ↦ rw (none, find-append (has_name other) shelf.files) (count-or (find (has_name other) shelf.files) (bytes_eq name other) (record { name = name; bytes = bytes; count = shelf.absent }))
      | inr w ↦ rw (w.1, find-changed (with_bytes bytes) (λ _. refl) name other shelf.files) (count-kept (find (has_name other) shelf.files) (bytes_eq name other) bytes shelf.absent)
    ]

-- a shelf with one more fault at a name's place is the shelf after its failed read
pub fail-place :
    (shelf : ShelfContents) (name : List ℕ) (most place : ℕ) (file : ShelfFile)
    → position (has_name name) shelf.files ≡ Some place → file ≡ get_or shelf.files place file
    → record shelf { files = set shelf.files place (with_fault file); asked = asked_after shelf name most } ≡ after_failed_read shelf name most
fail-place shelf name most place file found is =
    rw (find-at name shelf.files place file found)
    (ap (λ (files : List ShelfFile). record shelf { files = files; asked = asked_after shelf name most })
    (changed-at with_fault name shelf.files place file found is))

-- a shelf with one more fault of the names that aren't there is the shelf after a failed read of one
pub fail-absent :
    (shelf : ShelfContents) (name : List ℕ) (most : ℕ)
    → position (has_name name) shelf.files ≡ None
    → record shelf { absent = counted shelf.absent; asked = asked_after shelf name most } ≡ after_failed_read shelf name most
fail-absent shelf name most none =
    let missing = find-none name shelf.files none in
    rw (missing, changed-none with_fault name shelf.files missing) refl

-- the count of the name after one more fault of its file, or else of the names that aren't there
count-fault :
    (found : Option ShelfFile) (absent : ℕ)
    → option_map_or (λ (f : ShelfFile). f.count) (option_map with_fault found) (option_map_or (λ (f : ShelfFile). absent) found (counted absent))
    ≡ counted (option_map_or (λ (f : ShelfFile). f.count) found absent)
count-fault None absent = refl
count-fault (Some file) absent = refl

-- a failed read raises the count of its name by one
faults-after_failed :
    (shelf : ShelfContents) (name : List ℕ) (most : ℕ) → faults_of (after_failed_read shelf name most) name ≡ counted (faults_of shelf name)
faults-after_failed shelf name most =
    let own : bytes_eq name name ≡ true = (bytes_eq-Decides name name).1 refl in
    rw (find-changed with_fault (λ _. refl) name name shelf.files, own) (count-fault (file_of shelf name) shelf.absent)

-- so a shelf that equals the one after a failed read has one fault more of the name
pub raised-after_failed :
    {new : ShelfContents} (shelf : ShelfContents) (name : List ℕ) (most : ℕ)
    → new ≡ after_failed_read shelf name most → faults_of new name ≡ counted (faults_of shelf name)
raised-after_failed shelf name most failed = ap (λ (s : ShelfContents). faults_of s name) failed ∙ faults-after_failed shelf name most

-- a failed read changes nothing that is told
bytes-kept :
    (found : Option ShelfFile) (own : Bool)
    → option_map (λ (f : ShelfFile). f.bytes) (option_map (λ file. cond own (with_fault file) file) found) ≡ option_map (λ (f : ShelfFile). f.bytes) found
bytes-kept found own = grind arith

pub told-after_failed : (shelf : ShelfContents) (name : List ℕ) (most : ℕ) → told_of (after_failed_read shelf name most) ≡ told_of shelf
told-after_failed shelf name most =
    fun_ext (λ other. rw (find-changed with_fault (λ _. refl) name other shelf.files) (bytes-kept (file_of shelf other) (bytes_eq name other)))

-- one more fault of a name, or of those that aren't there, makes no count smaller
count-grows :
    (found : Option ShelfFile) (own : Bool) (absent more : ℕ) → absent ≤ more → (own ≡ true → option_map_or (λ (f : ShelfFile). f.count) found absent < 2 ^ 64)
    → option_map_or (λ (f : ShelfFile). f.count) found absent
    ≤ option_map_or (λ (f : ShelfFile). f.count) (option_map (λ file. cond own (with_fault file) file) found) more
count-grows found own absent more order small = grind arith

absent-grows :
    (found : Option ShelfFile) (absent : ℕ) → option_map_or (λ (f : ShelfFile). f.count) found absent < 2 ^ 64
    → absent ≤ option_map_or (λ (f : ShelfFile). absent) found (counted absent)
absent-grows found absent small = grind arith

pub counts-after_failed :
    (shelf : ShelfContents) (name other : List ℕ) (most : ℕ)
    → faults_of shelf name < 2 ^ 64 → faults_of shelf other ≤ faults_of (after_failed_read shelf name most) other
counts-after_failed shelf name other most small =
    rw (find-changed with_fault (λ _. refl) name other shelf.files)
    (count-grows (file_of shelf other) (bytes_eq name other) shelf.absent _ (absent-grows (file_of shelf name) shelf.absent small)
    (λ own. subst (λ n. faults_of shelf n < 2 ^ 64) ((bytes_eq-Decides name other).0 own) small))

-- the bytes of the file at a name's place are told of the name, in what the shelf is seen as
pub told-at :
    {shelf seen : ShelfContents} → shelf ≡ seen → (name : List ℕ) (place : ℕ) (file : ShelfFile)
    → position (has_name name) shelf.files ≡ Some place → file ≡ get_or shelf.files place file
    → told_of seen name ≡ Some file.bytes
told-at {shelf} same name place file found is = rw (← same, find-at name shelf.files place file found) (ap (λ (f : ShelfFile). Some f.bytes) (sym is))

-- and its count is the name's
pub faults-at :
    {shelf seen : ShelfContents} → shelf ≡ seen → (name : List ℕ) (place : ℕ) (file : ShelfFile)
    → position (has_name name) shelf.files ≡ Some place → file ≡ get_or shelf.files place file
    → faults_of seen name ≡ file.count
faults-at {shelf} same name place file found is = rw (← same, find-at name shelf.files place file found) (ap (λ (f : ShelfFile). f.count) (sym is))

-- nothing is told of a name without a place
pub told-none :
    (shelf : ShelfContents) (name : List ℕ) → position (has_name name) shelf.files ≡ None → told_of shelf name ≡ None
told-none shelf name none = ap (option_map (λ (f : ShelfFile). f.bytes)) (find-none name shelf.files none)

-- a read of a file at its name's place, whose number isn't to fail, doesn't fail
pub reads-at :
    {shelf seen : ShelfContents} → shelf ≡ seen → (name : List ℕ) (place number : ℕ) (file : ShelfFile)
    → position (has_name name) shelf.files ≡ Some place → file ≡ get_or shelf.files place file
    → number ≡ counted (length shelf.asked) → list_any (λ (n : ℕ). nat_eq n number) shelf.fails ≡ false → FailsToRead seen name → ⊥
reads-at {shelf} same name place number file found is own spared fails = go (subst (λ (s : ShelfContents). FailsToRead s name) (sym same) fails)
  where
    go : FailsToRead shelf name → ⊥
    go (inl (k, within, at)) = (let any = list_any_at (λ (n : ℕ). nat_eq n number) shelf.fails k (counted (length shelf.asked)) within (eq-eqb _ _ (at ∙ sym own)) in cc)
    go (inr missing) = (let told = told-at {shelf = shelf} refl name place file found is in cc)

-- an answer that is an error only if an allocation fails is not a fault
pub no-fault : {T : Type 0} (r : Result T ShelfFault) → IfErr r (λ fault. fault ≡ OutOfMemory) → IsErrOf r Failed → ⊥
no-fault (Ok value) memory is = cc
no-fault (Err fault) memory is = cc

-- and what isn't an error isn't a fault
pub ok-no_fault : {T : Type 0} (value : T) → IsErrOf {T = T} {E = ShelfFault} (Ok value) Failed → ⊥
ok-no_fault value is = cc

-- a shelf that gave the front of a name's bytes is the shelf after its read
pub read-place :
    (shelf : ShelfContents) (name : List ℕ) (most : ℕ) (bytes : List ℕ) → told_of shelf name ≡ Some bytes
    → record shelf { asked = asked_after shelf name most; gave = shelf.gave ++ (record { name = name; most = most; bytes = take (most + 1) bytes }) ∷ [] }
    ≡ after_read shelf name most
read-place shelf name most bytes told = rw told refl
