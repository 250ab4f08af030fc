-- What a sink in memory is: its bytes, its room, and when it fails.
use Rattle.std.specs.Prelude.{◌≡◌, ℕ, ◌≤◌, ◌-◌, ◌++◌, ◌⊎◌, List, [], length, take, min, Contains}
use Rattle.psi_io.specs.Counts.{counted}

-- a sink in memory: what it holds, the bytes that it has room left for, the most that one write
-- takes, the numbers of the writes that fail, the number of the last write, and the count of faults
pub record SinkContents : Type 0 where
  pub bytes : List ℕ
  pub room : ℕ
  pub most : ℕ
  pub fails : List ℕ
  pub writes : ℕ
  pub count : ℕ

-- a write of a piece fails: its number is to fail, or there is no room for a piece that isn't empty
abbrev pub FailsToWrite : SinkContents → List ℕ → Type 0
FailsToWrite sink piece = Contains sink.fails (counted sink.writes) ⊎ ((1 ≤ length piece) × (sink.room ≡ 0))

-- so many bytes are taken: there is room for them, and no number of a write is to fail
pub record Takes (sink : SinkContents) (n : ℕ) : Type 0 where
  pub room : n ≤ sink.room
  pub no_fails : sink.fails ≡ []

-- how many bytes of a piece are taken: the least of its length, the most of one write and the room
abbrev pub taken_count : SinkContents → List ℕ → ℕ
taken_count sink piece = min (length piece) (min sink.most sink.room)

-- the sink after a write that takes bytes
abbrev pub after_write : SinkContents → List ℕ → SinkContents
after_write sink piece = let taken = taken_count sink piece in record sink {
  bytes = sink.bytes ++ take taken piece;
  room = sink.room - taken;
  writes = counted sink.writes;
}

-- the sink after a write that fails
abbrev pub after_failed_write : SinkContents → SinkContents
after_failed_write sink = record sink { writes = counted sink.writes; count = counted sink.count }
