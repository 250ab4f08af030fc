-- The reading and the judging of a log side by side, line by line.
use Rattle.std.specs.Prelude.{ℕ, ◌+◌, ◌-◌, ◌^◌, List, [], length, ◌==◌, nat_le, Result, Ok, Err}
use Rattle.psi_past.specs.SeedWord.{seed_word}
use Rattle.psi_rate.specs.Composition.{SystemParts, Functions, system_functions}
use Rattle.psi_log_format.specs.declared.header.Header.{Header as LogHeader}
use Rattle.psi_log_format.specs.Log.{LogRegion, in_set, Certificate}
use Rattle.psi_log_words.specs.Refusal.{Refusal, ◌>>=◌, holds_or}
use Rattle.psi_log_words.specs.Regions.{box_before}
use Rattle.psi_log.specs.Reading.{read_steps, ended, read}
use Rattle.psi_log.specs.Cursor.{Cursor}
use Rattle.psi_replay.specs.Verdict.{rejected, is_within, holds_all, judge_steps, judge_end, judged, event_numbers, verdict_of}
use Rattle.psi_replay.specs.declared.answers.Verdict.{Verdict}
use Rattle.psi_replay.specs.declared.causes.Rejection.{Rejection}
use Rattle.psi_replay.specs.declared.causes.RuleCause.TheVariants.{Header, OutsideBox, NotCovered}

-- what a judging that the code did is
abbrev pub told : {X : Type 0} → Result X Rejection → Result (Unit {0}) Refusal
told (Ok kept) = Ok tt
told (Err rejection) = Err (rejected rejection.line rejection.cause)

-- one judging after another: the first rule that is broken
abbrev pub and_then : {X : Type 0} → Result (Unit {0}) Refusal → Result X Refusal → Result X Refusal
and_then before next = before >>= (λ _. next)

-- the last region, or the first line that breaks a rule, and the text that is left
abbrev pub lines_end : Result LogRegion Refusal → List ℕ → Result (Result LogRegion Refusal × List ℕ) Refusal
lines_end last rest = Ok (last, rest)

-- the rules of the lines before the steps
unfoldable pub judge_begin : List ℕ → ℕ → LogHeader → LogRegion → Result (Unit {0}) Refusal
judge_begin caps limit header begin = do
  queues ← holds_or (rejected 2 Header) (header.queues == length caps)
  horizon ← holds_or (rejected 5 Header) (nat_le header.horizon (2 ^ limit))
  within ← holds_or (rejected 6 OutsideBox) (is_within caps begin)
  holds_or (rejected 6 NotCovered) (holds_all caps begin)

-- the rules of a network with these capacities and this limit, as in the verdict
module _ (caps : List ℕ) (limit : ℕ) (events : ℕ → ℕ) (f : Functions) where
  -- so many lines of steps from line n on, after a region and a judging: the last region, or the first line that breaks a rule, and the text after
  -- them; but a line that is refused comes first, wherever it stands
  unfoldable pub lines_left : LogHeader → ℕ → ℕ → LogRegion → List ℕ → Result (Unit {0}) Refusal → Result (Result LogRegion Refusal × List ℕ) Refusal
  lines_left h count n region text before = do
    steps ← read_steps h count n (box_before h.version region) text
    lines_end (and_then before (judge_steps caps limit events f n count region steps.0)) steps.1

-- a log of which only its header and its state at time zero are known, which are all that a verdict tells of it
abbrev pub told_log : LogHeader → List ℕ → Certificate
told_log h final = record { header = h; begin = in_set []; entries = []; final = final }

-- the same rules
module _ (caps : List ℕ) (limit : ℕ) (events : ℕ → ℕ) (f : Functions) where
  -- the verdict on a log of which so many steps are read, where this is the region after them, this the text that is left, and this the judging so far
  unfoldable pub verdict_left : LogHeader → ℕ → LogRegion → List ℕ → Result (Unit {0}) Refusal → Result Verdict Refusal
  verdict_left h done region text before = do
    lines ← lines_left caps limit events f h (h.horizon - done) (7 + done) region text before
    final ← ended h lines.1
    Ok (verdict_of (told_log h final) (lines.0 >>= (λ (last : LogRegion). judge_end (7 + h.horizon) last final)))

-- the verdict on a log of a system that is read as far as a cursor, where this text is left and this is the judging so far, under these words
abbrev pub left_with : {E : Type 0} → (E → List ℕ → List ℕ) → SystemParts E → (ℕ → ℕ) → Cursor → List ℕ → Result (Unit {0}) Rejection → Result Verdict Refusal
left_with function system words c text judged =
    verdict_left system.caps system.limit (event_numbers system words) (system_functions function system words) c.header c.done c.region text (told judged)

-- the rules of a system for a log, under the words of its seed and stream
abbrev pub judged_under : {E : Type 0} → (E → List ℕ → List ℕ) → SystemParts E → Certificate → Result (Unit {0}) Refusal
judged_under function system c =
    judged system.caps system.limit (event_numbers system (seed_word c.header.seed c.header.stream)) (system_functions function system (seed_word c.header.seed c.header.stream)) c

-- the verdict on the log that a text is, by these rules, or the refusal of the text
abbrev pub replayed : (Certificate → Result (Unit {0}) Refusal) → List ℕ → Result Verdict Refusal
replayed rules text = read text >>= (λ (c : Certificate). Ok (verdict_of c (rules c)))
