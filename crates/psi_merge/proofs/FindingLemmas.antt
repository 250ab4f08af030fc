-- What is found of files.
use Rattle.std.specs.Prelude.{◌≡◌, Vec, ℕ, ◌+◌, ◌<◌, ◌≤◌, List, [], ◌∷◌, ◌++◌, take, length, map, drop, Option, Some, None, option_and_then, Result, Ok, Err, IsOk, IfSome, IfOk, IfErr, true, false, refl}
use Rattle.std.proofs.Common.{get_or, ap, sym, ◌∙◌, subst, append_assoc, inl, inr, arith}
use Rattle.std.proofs.lemmas.Bool.{cases_lt, lt-leb}
use Rattle.std.proofs.lemmas.List.{take_all, length-take-le, take-append-drop, drop_more, map_more, map-append, append-nil}
use Rattle.std.specs.declared.alloc.Global.{Global}
use Rattle.psi_io.specs.Shelf.{Read}
use Rattle.psi_io.proofs.CountsLemmas.{rose-over}
use Rattle.psi_program.specs.Seen.{ShelfSeen, IsUnread, HasAsked}
use Rattle.psi_program.specs.Reply.{line_reply}
use Rattle.psi_program.specs.Ending.{MayReply}
use Rattle.psi_report.specs.Contents.{Contents}
use Rattle.psi_report.specs.Text.{text_of}
use Rattle.psi_report_reader.specs.Merging.{merged, Merges}
use Rattle.psi_report_reader.specs.declared.error.MergeError.{MergeError}
use Rattle.psi_report_reader.specs.declared.error.MergeError.TheVariants as merge
use Rattle.psi_merge.specs.declared.ending.Ending.{Ending}
use Rattle.psi_merge.specs.declared.ending.Ending.TheVariants.{Merged, Usage, Refused, OtherNetwork, TooLarge, Unread, OutOfMemory}
use Rattle.psi_merge.specs.Reports.{report_in}
use Rattle.psi_merge.specs.Reply.{Reply, report_reply, report_at, merge_reply, go_on, with_file, with_files, whole_of, are_files, whole_reply, reply_to, text_reply}
use Rattle.psi_merge.specs.declared.status.Status.{Status}
use Rattle.psi_merge.specs.declared.status.Status.TheVariants as status
use Rattle.psi_merge.specs.Status.{IsReplied}
use Rattle.psi_merge.specs.Seen.{read_of, IsNext}
use Rattle.psi_merge.specs.Ended.{ending_of, ending_reply, MayEnd, MayBe, IsUnreadOf, IsTold, IsMissed, AreMissed, AreRead, IsFound, AreFound, IsReplyTo, IsCaused, IsEnding}
use Rattle.psi_merge.specs.Spared.{AreNextGiven, HasRead}

-- the front of a file is judged as the file
report_in-take : (bytes : List ℕ) → report_in (take 1048577 bytes) ≡ report_in bytes
unfolding report_in
report_in-take bytes = elim (cases_lt 1048577 (length bytes)) [
  | inl more ↦ (let count : length (take 1048577 bytes) ≡ 1048577 = length-take-le 1048577 bytes (omega arith) in
      rw (lt-leb (length bytes) 1048576 (omega arith), lt-leb (length (take 1048577 bytes)) 1048576 (omega arith)) refl)
  | inr few ↦ ap report_in (take_all 1048577 bytes few)
]

-- what is read of a file
pub report-found : (most : ℕ) → most ≡ 1048576 → (told : Option (List ℕ)) (name read : List ℕ) (result : Result Contents Ending) → IfSome told (λ bytes. read ≡ take (most + 1) bytes)
    → MayBe result (report_reply name (report_in read)) → IfSome (option_and_then (λ bytes. Some (report_reply name (report_in bytes))) told) (MayBe result)
report-found most at None name read result front is = tt
report-found most at (Some bytes) name read result front is =
    let count : most + 1 ≡ 1048577 = omega arith in
    subst (λ r. MayBe result (report_reply name r)) (ap report_in (front ∙ ap (λ n. take n bytes) count) ∙ report_in-take bytes) is

-- a file that couldn't be read
pub unread-may : (name : List ℕ) (ending : Ending) (whole : Result Contents Reply) → IsUnreadOf name ending → MayEnd ending whole
unread-may name (Unread line) whole is = tt
unread-may name OutOfMemory whole is = tt
unread-may name ending whole is = absurd is

unread-missed : (shelf : ShelfSeen) (name : List ℕ) (ending : Ending) → IsUnreadOf name ending → IsUnread shelf name → IsMissed shelf name ending
unread-missed shelf name (Merged text) is rose = is
unread-missed shelf name Usage is rose = is
unread-missed shelf name (Unread line) is rose = (rose, is)
unread-missed shelf name ending is rose = tt

may-some : (t : Option (Result Contents Reply)) (ending : Ending) → ((whole : Result Contents Reply) → MayEnd ending whole) → IfSome t (MayBe (Err ending))
may-some None ending may = tt
may-some (Some whole) ending may = may whole

pub unread-found : (shelf : ShelfSeen) (name : List ℕ) (found : Option (Result Contents Reply)) (ending : Ending) → IsUnreadOf name ending
    → IsUnread shelf name → IsFound shelf name found (Err ending)
unread-found shelf name found ending is rose = record {
  answer = may-some found ending (λ whole. unread-may name ending whole is);
  cause = unread-missed shelf name ending is rose;
}

-- an ending without a report stays one, whatever follows
may-go_on : (next : Contents → Option (Result Contents Reply)) (t : Option (Result Contents Reply)) (ending : Ending) → IfSome t (MayBe (Err ending)) → IfSome (go_on next t) (MayBe (Err ending))
may-go_on next None ending may = tt
may-go_on next (Some (Err reply)) ending may = may
may-go_on next (Some (Ok c)) (Unread line) may = may-some (next c) (Unread line) (λ whole. tt)
may-go_on next (Some (Ok c)) OutOfMemory may = may-some (next c) OutOfMemory (λ whole. tt)
may-go_on next (Some (Ok c)) (Merged text) may = absurd may
may-go_on next (Some (Ok c)) Usage may = absurd may
may-go_on next (Some (Ok c)) ending may = absurd cc

-- a report is gone on with
ok-go_on : (next : Contents → Option (Result Contents Reply)) (t : Option (Result Contents Reply)) (c : Contents) (Is : Result Contents Reply → Type 0)
    → IfSome t (λ found. found ≡ Ok c) → IfSome (next c) Is → IfSome (go_on next t) Is
ok-go_on next None c Is found is = tt
ok-go_on next (Some (Err reply)) c Is found is = absurd cc
ok-go_on next (Some (Ok d)) c Is found is = (let same : d ≡ c = cc in subst (λ e. IfSome (next e) Is) (sym same) is)

-- one file more
merges-reply : (name : List ℕ) (merging : Result Contents MergeError) (error : MergeError) (ending : Ending) → Merges (Err error) merging
    → IfSome (merge_reply name (Err error)) (MayEnd ending) → (error ≡ merge.OutOfMemory → ending ≡ OutOfMemory) → IfSome (merge_reply name merging) (MayBe (Err ending))
merges-reply name merging (merge.OtherNetwork line) ending is may memory = rw is may
merges-reply name merging (merge.TooLarge line) ending is may memory = rw is may
merges-reply name merging merge.OutOfMemory ending is may memory = rw (memory refl) (may-some (merge_reply name merging) OutOfMemory (λ whole. tt))

pub file-unmerged : (told : List ℕ → Option (List ℕ)) (c d : Contents) (name : List ℕ) (error : MergeError) (ending : Ending)
    → IfSome (report_at told name) (λ found. found ≡ Ok d) → Merges (Err error) (merged c d) → IfSome (merge_reply name (Err error)) (MayEnd ending)
    → (error ≡ merge.OutOfMemory → ending ≡ OutOfMemory) → IfSome (with_file told c name) (MayBe (Err ending))
file-unmerged told c d name error ending there is may memory =
    ok-go_on (λ e. merge_reply name (merged c e)) (report_at told name) d (MayBe (Err ending)) there (merges-reply name (merged c d) error ending is may memory)

pub file-merged : (told : List ℕ → Option (List ℕ)) (c d e : Contents) (name : List ℕ)
    → IfSome (report_at told name) (λ found. found ≡ Ok d) → merged c d ≡ Ok e → IfSome (with_file told c name) (MayBe (Ok e))
file-merged told c d e name there is =
    ok-go_on (λ e. merge_reply name (merged c e)) (report_at told name) d (MayBe (Ok e)) there (rw is refl)

pub file-missed : (told : List ℕ → Option (List ℕ)) (c : Contents) (name : List ℕ) (ending : Ending) → IfSome (report_at told name) (MayBe (Err ending))
    → IfSome (with_file told c name) (MayBe (Err ending))
file-missed told c name ending may = may-go_on (λ e. merge_reply name (merged c e)) (report_at told name) ending may

-- an ending that tells of no failed read misses no file, and had no failed read
told-missed : (shelf : ShelfSeen) (name : List ℕ) (ending : Ending) → IsTold ending → IsMissed shelf name ending
told-missed shelf name (Merged text) told = told
told-missed shelf name Usage told = told
told-missed shelf name (Unread line) told = absurd told
told-missed shelf name ending told = tt

pub told-found : (shelf : ShelfSeen) (name : List ℕ) (found : Option (Result Contents Reply)) (ending : Ending) → IfSome found (MayBe (Err ending)) → IsTold ending
    → IsFound shelf name found (Err ending)
told-found shelf name found ending answer told = record { answer = answer; cause = told-missed shelf name ending told }

pub told-read : (ending : Ending) → IsTold ending → HasRead ending
told-read (Unread line) told = told
told-read ending told = tt

-- ---- all files

-- the files in two parts
go_on-both : (next last both : Contents → Option (Result Contents Reply)) (t : Option (Result Contents Reply)) → ((c : Contents) → both c ≡ go_on last (next c))
    → go_on both t ≡ go_on last (go_on next t)
go_on-both next last both None same = refl
go_on-both next last both (Some (Err reply)) same = refl
go_on-both next last both (Some (Ok c)) same = same c

with_files-append : (told : List ℕ → Option (List ℕ)) (names others : List (List ℕ)) (c : Contents)
    → with_files told c (names ++ others) ≡ go_on (λ d. with_files told d others) (with_files told c names)
unfolding with_files
with_files-append told [] others c = refl
with_files-append told (name ∷ names) others c =
    go_on-both (λ d. with_files told d names) (λ d. with_files told d others) (λ d. with_files told d (names ++ others)) (with_file told c name) (with_files-append told names others)

-- files have this report together, where the shelf's model has them
abbrev pub HasReport : (List (List ℕ) → Option (Result Contents Reply)) → List (List ℕ) → Contents → Type 0
HasReport found names c = IfSome (found names) (λ whole. whole ≡ Ok c)

pub has-none : (told : List ℕ → Option (List ℕ)) (c : Contents) → HasReport (with_files told c) [] c
unfolding with_files
has-none told c = refl

pub has-ok : (t : Option (Result Contents Reply)) (c : Contents) → IfSome t (λ whole. whole ≡ Ok c) → IfSome t IsOk
has-ok None c has = tt
has-ok (Some (Ok d)) c has = refl
has-ok (Some (Err reply)) c has = absurd cc

-- a file after those that have a report, with others after it
module _ {S : Type 0} (view : S → List ℕ) (told : List ℕ → Option (List ℕ)) (first : Contents) (names : List S) (whole : Contents) (i : ℕ) (x : S)
    (small : i < length names) (is : x ≡ get_or names i x) (has : HasReport (with_files told first) (map view (take i names)) whole) where
  pub split-at : map view (take i names) ++ view x ∷ map view (drop (i + 1) names) ≡ map view names
  split-at =
      ap (λ (y : S). map view (take i names) ++ view y ∷ map view (drop (i + 1) names)) is
      ∙ ap (λ (rest : List S). map view (take i names) ++ map view rest) (sym (drop_more names i x small))
      ∙ sym (map-append view (take i names) (drop i names)) ∙ ap (map view) (take-append-drop i names)

  -- what is found with more files after those
  found-behind : (others : List (List ℕ)) (Is : Result Contents Reply → Type 0) → IfSome (with_files told whole others) Is → IfSome (with_files told first (map view (take i names) ++ others)) Is
  found-behind others Is is = rw (with_files-append told (map view (take i names)) others first)
      (ok-go_on (λ d. with_files told d others) (with_files told first (map view (take i names))) whole Is has is)

  pub has-more : (both : Contents) → IfSome (with_file told whole (view x)) (MayBe (Ok both)) → HasReport (with_files told first) (map view (take (i + 1) names)) both
  unfolding with_files
  has-more both there =
      rw (map_more view names i x small, ← is)
      (found-behind (view x ∷ []) (MayBe (Ok both)) (ok-go_on (λ d. with_files told d []) (with_file told whole (view x)) both (MayBe (Ok both)) there refl))

  pub all-missed : (ending : Ending) → IfSome (with_file told whole (view x)) (MayBe (Err ending)) → IfSome (with_files told first (map view names)) (MayBe (Err ending))
  unfolding with_files
  all-missed ending may =
      subst (λ (all : List (List ℕ)). IfSome (with_files told first all) (MayBe (Err ending))) split-at
      (found-behind (view x ∷ map view (drop (i + 1) names)) (MayBe (Err ending))
      (may-go_on (λ d. with_files told d (map view (drop (i + 1) names))) (with_file told whole (view x)) ending may))

  -- it comes to be next
  abbrev next-at : IsNext (with_files told first) (map view names) (view x)
  next-at = record {
    before = map view (take i names);
    behind = map view (drop (i + 1) names);
    place = split-at;
    merged = has-ok (with_files told first (map view (take i names))) whole has;
  }

  -- so it is given, where each file that is needed is and the shelf gives what it did
  pub given-at : (gives gives_on : List ℕ → Type 0) → ((other : List ℕ) → gives other → gives_on other) → AreNextGiven gives (with_files told first) (map view names) → gives_on (view x)
  given-at gives gives_on on given = on (view x) (given (view x) next-at)

pub has-all : {S : Type 0} (view : S → List ℕ) (told : List ℕ → Option (List ℕ)) (first : Contents) (names : List S) (whole : Contents) (i : ℕ) → length names ≤ i
    → HasReport (with_files told first) (map view (take i names)) whole → IfSome (with_files told first (map view names)) (MayBe (Ok whole))
has-all view told first names whole i past has = rw (← take_all i names past) has

-- ---- what was asked for

-- one more read
pub asked-more : (before between after : List Read) (names : List (List ℕ)) (name : List ℕ) → between ≡ before ++ map read_of names → after ≡ between ++ read_of name ∷ []
    → after ≡ before ++ map read_of (names ++ name ∷ [])
asked-more before between after names name earlier last = simp (last, earlier, append_assoc, map-append)

-- more reads after the first
asked-behind : (before between after : List Read) (name : List ℕ) (names : List (List ℕ)) → between ≡ before ++ read_of name ∷ [] → after ≡ between ++ map read_of names
    → after ≡ before ++ map read_of (name ∷ names)
asked-behind before between after name names first rest = simp (rest, first, append_assoc)

-- one more of the names that are asked for one after another
pub asked-next : {S : Type 0} (view : S → List ℕ) (names : List S) (i : ℕ) (x : S) → i < length names → x ≡ get_or names i x → (before between after : List Read)
    → between ≡ before ++ map read_of (map view (take i names)) → after ≡ between ++ read_of (view x) ∷ [] → after ≡ before ++ map read_of (map view (take (i + 1) names))
asked-next view names i x small is before between after earlier last = simp (last, earlier, append_assoc, map_more view names i x small, ← is, map-append)

pub asked-all : {S : Type 0} (view : S → List ℕ) (names : List S) (i : ℕ) → length names ≤ i → (before after : List Read) → after ≡ before ++ map read_of (map view (take i names))
    → after ≡ before ++ map read_of (map view names)
asked-all view names i past before after asked = asked ∙ ap (λ (all : List _). before ++ map read_of (map view all)) (take_all i names past)

-- a fault that was counted in between was counted over the whole
missed-over : (told other_told : List ℕ → Option (List ℕ)) (asked_before asked_between asked_after : List Read) (before between after : List ℕ → ℕ) → ((other : List ℕ) → before other ≤ between other)
    → (name : List ℕ) (ending : Ending)
    → IsMissed (record { told = other_told; asked_before = asked_between; asked_after = asked_after; faults_before = between; faults_after = after }) name ending
    → IsMissed (record { told = told; asked_before = asked_before; asked_after = asked_after; faults_before = before; faults_after = after }) name ending
missed-over told other_told asked_before asked_between asked_after before between after counts name (Merged text) missed = missed
missed-over told other_told asked_before asked_between asked_after before between after counts name Usage missed = missed
missed-over told other_told asked_before asked_between asked_after before between after counts name (Unread line) missed =
    (rose-over (before name) (between name) (after name) (after name) (counts name) missed.0 (omega arith), missed.1)
missed-over told other_told asked_before asked_between asked_after before between after counts name ending missed = tt

-- the first file, and those after it
abbrev pub next-first : (told : List ℕ → Option (List ℕ)) (name : List ℕ) (names : List (List ℕ)) → IsNext (whole_of told) (name ∷ names) name
next-first told name names = record { before = []; behind = names; place = refl; merged = tt }

abbrev next-behind : (told : List ℕ → Option (List ℕ)) (name : List ℕ) (names : List (List ℕ)) (c : Contents) → IfSome (report_at told name) (λ found. found ≡ Ok c)
    → (other : List ℕ) → IsNext (with_files told c) names other → IsNext (whole_of told) (name ∷ names) other
next-behind told name names c there other next = record {
  before = name ∷ next.before;
  behind = next.behind;
  place = ap (λ (rest : List (List ℕ)). name ∷ rest) next.place;
  merged = ok-go_on (λ d. with_files told d next.before) (report_at told name) c IsOk there next.merged;
}

-- a file that is missed, after those that have a report
module _ {S : Type 0} (view : S → List ℕ) (told other_told : List ℕ → Option (List ℕ)) (first : Contents) (names : List S) (whole : Contents) (i : ℕ) (x : S)
    (small : i < length names) (is : x ≡ get_or names i x) (has : HasReport (with_files told first) (map view (take i names)) whole)
    (asked_before asked_between asked_after : List Read) (before between after : List ℕ → ℕ) (counts : (other : List ℕ) → before other ≤ between other)
    (earlier : asked_between ≡ asked_before ++ map read_of (map view (take i names))) (last : asked_after ≡ asked_between ++ read_of (view x) ∷ []) where
  pub missed-at : (ending : Ending)
      → IsMissed (record { told = other_told; asked_before = asked_between; asked_after = asked_after; faults_before = between; faults_after = after }) (view x) ending
      → AreMissed (record { told = told; asked_before = asked_before; asked_after = asked_after; faults_before = before; faults_after = after }) (with_files told first) (map view names) ending
  missed-at ending missed = record {
    last = record {
      name = view x;
      next = next-at view told first names whole i x small is has;
      asked = asked-more asked_before asked_between asked_after (map view (take i names)) (view x) earlier last;
    };
    cause = missed-over told other_told asked_before asked_between asked_after before between after counts (view x) ending missed;
  }

-- all files after the first
module _ (told : List ℕ → Option (List ℕ)) (name : List ℕ) (names : List (List ℕ)) (c : Contents) (there : IfSome (report_at told name) (λ found. found ≡ Ok c))
    (asked_before asked_between asked_after : List Read) (asked : asked_between ≡ asked_before ++ read_of name ∷ []) where
  asked-rest : (result : Result Contents Ending) → IfOk result (λ d. asked_after ≡ asked_between ++ map read_of names) → IfOk result (λ d. asked_after ≡ asked_before ++ map read_of (name ∷ names))
  asked-rest (Ok d) rest = asked-behind asked_before asked_between asked_after name names asked rest
  asked-rest (Err ending) rest = tt

  module _ (before between after : List ℕ → ℕ) (counts : (other : List ℕ) → before other ≤ between other) where
    missed-rest : (result : Result Contents Ending)
        → IfErr result (AreMissed (record { told = told; asked_before = asked_between; asked_after = asked_after; faults_before = between; faults_after = after }) (with_files told c) names)
        → IfErr result (AreMissed (record { told = told; asked_before = asked_before; asked_after = asked_after; faults_before = before; faults_after = after }) (whole_of told) (name ∷ names))
    missed-rest (Ok d) missed = tt
    missed-rest (Err ending) missed =
        let last = missed.last in
        record {
          last = record {
            name = last.name;
            next = next-behind told name names c there last.name last.next;
            asked = asked-behind asked_before asked_between asked_after name (last.next.before ++ last.name ∷ []) asked last.asked;
          };
          cause = missed-over told told asked_before asked_between asked_after before between after counts last.name ending missed.cause;
        }

    found-rest : (result : Result Contents Ending)
        → AreFound (record { told = told; asked_before = asked_between; asked_after = asked_after; faults_before = between; faults_after = after }) (with_files told c) names result
        → AreFound (record { told = told; asked_before = asked_before; asked_after = asked_after; faults_before = before; faults_after = after }) (whole_of told) (name ∷ names) result
    found-rest result found = record {
      answer = ok-go_on (λ d. with_files told d names) (report_at told name) c (MayBe result) there found.answer;
      asked = asked-rest result found.asked;
      cause = missed-rest result found.cause;
    }

-- the shelf's model has the same after the first
module _ (told other_told : List ℕ → Option (List ℕ)) (name : List ℕ) (names : List (List ℕ)) (c : Contents) (same : other_told ≡ told)
    (there : IfSome (report_at told name) (λ found. found ≡ Ok c)) where
  pub found-all : (asked_before asked_between asked_after : List Read) (before between after : List ℕ → ℕ) (result : Result Contents Ending)
      → asked_between ≡ asked_before ++ read_of name ∷ [] → ((other : List ℕ) → before other ≤ between other)
      → AreFound (record { told = other_told; asked_before = asked_between; asked_after = asked_after; faults_before = between; faults_after = after }) (with_files other_told c) names result
      → AreFound (record { told = told; asked_before = asked_before; asked_after = asked_after; faults_before = before; faults_after = after }) (whole_of told) (name ∷ names) result
  found-all asked_before asked_between asked_after before between after result asked counts found =
      found-rest told name names c there asked_before asked_between asked_after asked before between after counts result
      (subst (λ (t : List ℕ → Option (List ℕ)).
      AreFound (record { told = t; asked_before = asked_between; asked_after = asked_after; faults_before = between; faults_after = after }) (with_files t c) names result) same found)

  -- where each file that is needed is given, those after the first are
  pub given-behind : (gives gives_on : List ℕ → Type 0) → ((other : List ℕ) → gives other → gives_on other) → AreNextGiven gives (whole_of told) (name ∷ names)
      → AreNextGiven gives_on (with_files other_told c) names
  given-behind gives gives_on on given other next =
      on other (given other (next-behind told name names c there other (subst (λ (t : List ℕ → Option (List ℕ)). IsNext (with_files t c) names other) same next)))

pub missed-all : (shelf : ShelfSeen) (name : List ℕ) (names : List (List ℕ)) (ending : Ending) → IsFound shelf name (report_at shelf.told name) (Err ending)
    → shelf.asked_after ≡ shelf.asked_before ++ read_of name ∷ [] → AreFound shelf (whole_of shelf.told) (name ∷ names) (Err ending)
missed-all shelf name names ending found asked = record {
  answer = may-go_on (λ c. with_files shelf.told c names) (report_at shelf.told name) ending found.answer;
  asked = tt;
  cause = record { last = record { name = name; next = next-first shelf.told name names; asked = asked }; cause = found.cause };
}

-- ---- all words

-- a front of files that are merged is merged
ok-front : (next : Contents → Option (Result Contents Reply)) (t : Option (Result Contents Reply)) → IfSome (go_on next t) IsOk → IfSome t IsOk
ok-front next None is = tt
ok-front next (Some (Ok c)) is = refl
ok-front next (Some (Err reply)) is = is

front-merged : (told : List ℕ → Option (List ℕ)) (front others : List (List ℕ)) → IfSome (whole_of told (front ++ others)) IsOk → IfSome (whole_of told front) IsOk
front-merged told [] others is = tt
front-merged told (name ∷ names) others is = go (report_at told name) is
  where
    go : (t : Option (Result Contents Reply)) → IfSome (go_on (λ c. with_files told c (names ++ others)) t) IsOk → IfSome (go_on (λ c. with_files told c names) t) IsOk
    go None is = tt
    go (Some (Err reply)) is = is
    go (Some (Ok c)) is =
        ok-front (λ d. with_files told d others) (with_files told c names) (subst (λ (t : Option (Result Contents Reply)). IfSome t IsOk) (with_files-append told names others c) is)

-- the last of some names, and those before it
last-of : (name : List ℕ) (names : List (List ℕ)) → (front : List (List ℕ)) × (last : List ℕ) × (front ++ last ∷ [] ≡ name ∷ names)
last-of name [] = ([], name, refl)
last-of name (other ∷ names) =
    let rest = last-of other names in (name ∷ rest.0, rest.1, ap (λ (all : List (List ℕ)). name ∷ all) rest.2)

-- files that are all read and merged, of which there is one at least
all-read : (shelf : ShelfSeen) (words : List (List ℕ)) → are_files words ≡ true → HasAsked shelf (map read_of words) → IfSome (whole_of shelf.told words) IsOk → AreRead shelf words
unfolding are_files
all-read shelf [] are asked merged = absurd cc
all-read shelf (word ∷ words) are asked merged =
    let last = last-of word words in
    record {
      last = record {
        name = last.1;
        next = record {
          before = last.0;
          behind = [];
          place = last.2;
          merged = front-merged shelf.told last.0 (last.1 ∷ []) (subst (λ (all : List (List ℕ)). IfSome (whole_of shelf.told all) IsOk) (sym last.2) merged);
        };
        asked = subst (λ (all : List (List ℕ)). HasAsked shelf (map read_of all)) (sym last.2) asked;
      };
      all = refl;
    }

-- ---- how the work ends

pub ended-usage : (shelf : ShelfSeen) (words : List (List ℕ)) → are_files words ≡ false → shelf.asked_after ≡ shelf.asked_before → IsEnding shelf words (ending_of Usage)
unfolding reply_to
ended-usage shelf words are same = record {
  reply = rw are refl;
  cause = record { replied = tt; usage = λ e. are; no_files = λ e. refl; reported = λ kind. refl; printed = λ e. absurd cc };
  asked = inl (are, same ∙ sym (append-nil shelf.asked_before));
}

-- there is no memory for the text of the report of all
may-memory : (t : Option Reply) → IfSome t (MayReply (ending_of OutOfMemory))
may-memory None = tt
may-memory (Some reply) = tt

pub ended-memory : (shelf : ShelfSeen) (words : List (List ℕ)) (c : Contents) → are_files words ≡ true → AreFound shelf (whole_of shelf.told) words (Ok c)
    → IsEnding shelf words (ending_of OutOfMemory)
ended-memory shelf words c are found = record {
  reply = may-memory (reply_to shelf.told words);
  cause = are;
  asked = inr (record { files = are; last = (all-read shelf words are found.asked (has-ok (whole_of shelf.told words) c found.answer)).last; all = λ e. absurd cc });
}

replied : (t : Option (Result Contents Reply)) (Is : Reply → Type 0) (May : Result Contents Reply → Type 0) → IfSome t May → ((whole : Result Contents Reply) → May whole → Is (whole_reply whole))
    → IfSome (option_and_then (λ whole. Some (whole_reply whole)) t) Is
replied None Is May may make = tt
replied (Some whole) Is May may make = make whole may

pub ended-merged : (shelf : ShelfSeen) (words : List (List ℕ)) (text : Vec ℕ Global) (c : Contents) → are_files words ≡ true → AreFound shelf (whole_of shelf.told) words (Ok c)
    → text.items ≡ text_of c → IsEnding shelf words (ending_of (Merged text))
unfolding reply_to
ended-merged shelf words text c are found is =
    let read = all-read shelf words are found.asked (has-ok (whole_of shelf.told words) c found.answer) in
    record {
      reply = rw are (replied (whole_of shelf.told words) (MayReply (ending_of (Merged text))) (MayBe (Ok c)) found.answer (λ whole same. (rw same (ap text_reply is))));
      cause = record { replied = tt; usage = λ e. absurd cc; no_files = λ none. absurd cc; reported = λ kind. absurd kind; printed = λ e. refl };
      asked = inr (record { files = are; last = read.last; all = λ e. read.all });
    }

-- an ending without a report replies
may-reply : (ending : Ending) (whole : Result Contents Reply) → MayEnd ending whole → MayReply (ending_of ending) (whole_reply whole)
may-reply (Merged text) whole may = absurd may
may-reply Usage whole may = absurd may
may-reply (Unread line) whole may = tt
may-reply OutOfMemory whole may = tt
may-reply ending whole may = rw may refl

-- a line on a file is a reply to words that are files
line-own : (words : List (List ℕ)) (code : Status) (line : List ℕ) → are_files words ≡ true → IsReplied code → (code ≡ status.Usage → ⊥) → (code ≡ status.Done → ⊥)
    → IsReplyTo words (line_reply code line)
line-own words code line are kind usage done = record {
  replied = kind;
  usage = λ e. absurd (usage e);
  no_files = λ none. absurd cc;
  reported = λ kind. refl;
  printed = λ e. absurd (done e);
}

missed-cause : (shelf : ShelfSeen) (words : List (List ℕ)) (ending : Ending) → are_files words ≡ true → AreMissed shelf (whole_of shelf.told) words ending
    → IsCaused shelf words (ending_of ending)
missed-cause shelf words (Merged text) are missed = absurd missed.cause
missed-cause shelf words Usage are missed = absurd missed.cause
missed-cause shelf words (Refused line) are missed = line-own words status.Refused line.items are tt (λ e. absurd cc) (λ e. absurd cc)
missed-cause shelf words (OtherNetwork line) are missed = line-own words status.OtherNetwork line.items are tt (λ e. absurd cc) (λ e. absurd cc)
missed-cause shelf words (TooLarge line) are missed = line-own words status.TooLarge line.items are tt (λ e. absurd cc) (λ e. absurd cc)
missed-cause shelf words (Unread line) are missed = (record { files = are; last = missed.last; unread = missed.cause.0 }, missed.cause.1)
missed-cause shelf words OutOfMemory are missed = are

-- such an ending isn't done
not-done : (shelf : ShelfSeen) (name : List ℕ) (ending : Ending) → IsMissed shelf name ending → (ending_reply ending).status ≡ status.Done → ⊥
not-done shelf name (Merged text) missed is = absurd missed
not-done shelf name Usage missed is = absurd missed
not-done shelf name ending missed is = absurd cc

pub ended-missed : (shelf : ShelfSeen) (words : List (List ℕ)) (ending : Ending) → are_files words ≡ true → AreFound shelf (whole_of shelf.told) words (Err ending)
    → IsEnding shelf words (ending_of ending)
unfolding reply_to
ended-missed shelf words ending are found = record {
  reply = rw are (replied (whole_of shelf.told words) (MayReply (ending_of ending)) (MayBe (Err ending)) found.answer (λ whole may. may-reply ending whole may));
  cause = missed-cause shelf words ending are found.cause;
  asked = inr (record { files = are; last = found.cause.last; all = λ e. absurd (not-done shelf found.cause.last.name ending found.cause.cause e) });
}
