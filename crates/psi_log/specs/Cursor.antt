-- The reading of a log in one pass: what stands before its steps, step by step, and its end.
use Rattle.std.specs.Prelude.{◌≡◌, ℕ, ◌+◌, ◌≤◌, List, ◌++◌, length, nat_le, Result, Ok}
use Rattle.psi_log_format.specs.declared.header.Header.{Header}
use Rattle.psi_log_format.specs.Log.{LogRegion, Entry, Certificate, IsHeader, IsRegion}
use Rattle.psi_log_words.specs.Refusal.{Refusal, refused, ◌>>=◌, holds_or}
use Rattle.psi_log_words.specs.declared.refusals.LogCause.TheVariants.{TooLong}
use Rattle.psi_log_scan.specs.Lines.{read_header}
use Rattle.psi_log_words.specs.Regions.{box_before}
use Rattle.psi_log.specs.Reading.{begin_line, read_steps, ended}
use Rattle.psi_log_scan.specs.Scanned.{next_step}

-- how far a log is read: its header, how many steps are read, the regions before and after the last one of them, and the text after it; where
-- no step is read, both are the region at which the run begins
pub record Cursor : Type 0 where
  pub header : Header
  pub done : ℕ
  pub before : LogRegion
  pub region : LogRegion
  pub rest : List ℕ

-- what is left of a text is its end
abbrev pub EndsAs : List ℕ → List ℕ → Type 0
EndsAs text rest = (front : List ℕ) × (text ≡ front ++ rest)

-- a text read up to its first step
unfoldable pub begun : List ℕ → Result Cursor Refusal
begun text = do
  few ← holds_or (refused 0 TooLong) (nat_le (length text) 33554432)
  header ← read_header text
  begin ← begin_line header.0.queues header.1
  Ok (record { header = header.0; done = 0; before = begin.0; region = begin.0; rest = begin.1 })

-- the next step, and the text after it
abbrev pub next_of : Cursor → Result (Entry × List ℕ) Refusal
next_of c = next_step c.header (7 + c.done) (box_before c.header.version c.region) c.rest

-- the log of what was read before its steps, of these, and of the state at time zero
abbrev pub log_of : Cursor → List Entry → List ℕ → Certificate
log_of c entries final = record { header = c.header; begin = c.region; entries = entries; final = final }

-- the log that a text is which is read up to its first step
unfoldable pub left_of : Cursor → Result Certificate Refusal
left_of c = do
  steps ← read_steps c.header c.header.horizon 7 (box_before c.header.version c.region) c.rest
  final ← ended c.header steps.1
  Ok (log_of c steps.0 final)

-- what each cursor meets: its header and its region are in their ranges, and no more steps are read than the horizon has
pub record IsCursor (c : Cursor) : Type 0 where
  pub header : IsHeader c.header
  pub before : IsRegion c.header.queues c.before
  pub region : IsRegion c.header.queues c.region
  pub done : c.done ≤ c.header.horizon
