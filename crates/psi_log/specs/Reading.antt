-- The reading of a text as a log, line by line: the log, or the first line that is refused with its first cause.
use Rattle.std.specs.Prelude.{ℕ, zero, suc, ◌&&◌, ◌+◌, List, [], ◌∷◌, length, codes, ◌==◌, nat_le, Option, None, Result, Ok, Err}
use Rattle.std.specs.Str.{bytes_eq}
use Rattle.psi_state.specs.State.{Corners}
use Rattle.psi_log_format.specs.declared.header.Header.{Header}
use Rattle.psi_log_format.specs.Log.{LogRegion, Entry, Certificate}
use Rattle.psi_log_words.specs.Refusal.{Refusal, refused, ◌>>=◌, holds_or}
use Rattle.psi_log_words.specs.Words.{has_pieces}
use Rattle.psi_log_scan.specs.Lines.{read_line, read_header}
use Rattle.psi_log_scan.specs.Scanned.{next_step}
use Rattle.psi_log_words.specs.declared.refusals.LogCause.TheVariants.{Shape, TrailingText, TooLong}
use Rattle.psi_log_words.specs.Regions.{form_of, read_state, box_before, read_given}

-- the words of the region at which the run begins
unfoldable pub read_begin : ℕ → List (List ℕ) → Result LogRegion Refusal
read_begin queues [] = Err (refused 6 Shape)
read_begin queues (first ∷ region) = do
  named ← holds_or (refused 6 Shape) (bytes_eq first (codes "begin"))
  form ← form_of 6 queues None region
  read_given 6 queues form

-- the words of the state at time zero, on line n
unfoldable pub read_end : ℕ → ℕ → List (List ℕ) → Result (List ℕ) Refusal
read_end n queues (first ∷ state ∷ []) = do
  shaped ← holds_or (refused n Shape) (bytes_eq first (codes "end") && has_pieces queues state)
  read_state n state
read_end n queues words = Err (refused n Shape)

-- the line of the region at which the run begins
unfoldable pub begin_line : ℕ → List ℕ → Result (LogRegion × List ℕ) Refusal
begin_line queues text = read_line 6 (read_begin queues) text

-- the state at time zero, where its line is all of the text that is left after the steps
unfoldable pub ended : Header → List ℕ → Result (List ℕ) Refusal
ended h text = do
  final ← read_line (7 + h.horizon) (read_end (7 + h.horizon) h.queues) text
  over ← holds_or (refused (8 + h.horizon) TrailingText) (length final.1 == 0)
  Ok final.0

-- the lines after this header
module _ (h : Header) where
  -- so many lines of steps, from line n on, where the box from which a box has to be written may be given, and what follows them
  unfoldable pub read_steps : ℕ → ℕ → Option Corners → List ℕ → Result (List Entry × List ℕ) Refusal
  read_steps zero n before text = Ok ([], text)
  read_steps (suc count) n before text = do
    entry ← next_step h n before text
    more ← read_steps count (n + 1) (box_before h.version entry.0.region) entry.1
    Ok (entry.0 ∷ more.0, more.1)

  -- the log that a header and the text after it are
  unfoldable pub after_header : List ℕ → Result Certificate Refusal
  after_header text = do
    begin ← begin_line h.queues text
    steps ← read_steps h.horizon 7 (box_before h.version begin.0) begin.1
    final ← ended h steps.1
    Ok (record { header = h; begin = begin.0; entries = steps.0; final = final })

-- the log that a text is
unfoldable pub read : List ℕ → Result Certificate Refusal
read text = do
  few ← holds_or (refused 0 TooLong) (nat_le (length text) 33554432)
  header ← read_header text
  after_header header.0 header.1
