-- What is seen of a shelf and of a sink over a call.
use Rattle.std.specs.Prelude.{◌≡◌, ℕ, List, ◌++◌, Option}
use Rattle.psi_io.specs.Counts.{Rose}
use Rattle.psi_io.specs.Shelf.{Read, Given, AgreesSince}
use Rattle.psi_io.specs.Sink.{appended, GrewByPrefix, TookPrefix}

-- what is seen of a shelf: the bytes that it tells of each name, and, before and after, the reads that it was asked for and each name's
-- count of faults
pub record ShelfSeen : Type 0 where
  pub told : List ℕ → Option (List ℕ)
  pub asked_before : List Read
  pub asked_after : List Read
  pub faults_before : List ℕ → ℕ
  pub faults_after : List ℕ → ℕ

-- a call of a shelf, before and after: the answers that it gave, the reads that it was asked for, and each name's count of faults
pub record ShelfCall : Type 0 where
  pub gave_before : List Given
  pub gave_after : List Given
  pub asked_before : List Read
  pub asked_after : List Read
  pub faults_before : List ℕ → ℕ
  pub faults_after : List ℕ → ℕ

-- what is seen of the shelf, if its files hold what is told
abbrev pub seen_with : ShelfCall → (List ℕ → Option (List ℕ)) → ShelfSeen
seen_with call told = record { told = told; asked_before = call.asked_before; asked_after = call.asked_after; faults_before = call.faults_before; faults_after = call.faults_after }

-- these contents of files agree with the answers of the call
abbrev pub AgreesWith : (List ℕ → Option (List ℕ)) → ShelfCall → Type 0
AgreesWith told call = AgreesSince told call.gave_before call.gave_after

-- a read of the name failed
abbrev pub IsUnread : ShelfSeen → List ℕ → Type 0
IsUnread shelf name = Rose (shelf.faults_before name) (shelf.faults_after name)

-- in the call the shelf was asked for these reads alone, in this order
abbrev pub HasAsked : ShelfSeen → List Read → Type 0
HasAsked shelf reads = shelf.asked_after ≡ shelf.asked_before ++ reads

-- what is seen of a sink, before and after: what it holds, where it tells it, the bytes that were accepted, and its count of faults
pub record SinkSeen : Type 0 where
  pub before : Option (List ℕ)
  pub after : Option (List ℕ)
  pub took_before : List ℕ
  pub took_after : List ℕ
  pub faults_before : ℕ
  pub faults_after : ℕ

-- the sink grew by the text: what it holds, and what was accepted
pub record Grew (sink : SinkSeen) (text : List ℕ) : Type 0 where
  pub held : sink.after ≡ appended sink.before text
  pub took : sink.took_after ≡ sink.took_before ++ text

-- the sink grew by a prefix of the text: what it holds, and what was accepted, which may be longer where a write failed
pub record GrewByPart (sink : SinkSeen) (text : List ℕ) : Type 0 where
  pub held : GrewByPrefix sink.before sink.after text
  pub took : TookPrefix sink.took_before sink.took_after text

-- the sink holds what it held, and nothing was accepted
pub record IsUnchanged (sink : SinkSeen) : Type 0 where
  pub held : sink.after ≡ sink.before
  pub took : sink.took_after ≡ sink.took_before

-- a write to the sink failed
abbrev pub HasFailed : SinkSeen → Type 0
HasFailed sink = Rose sink.faults_before sink.faults_after
