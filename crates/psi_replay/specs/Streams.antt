-- What a replay keeps of a text that comes piece by piece: the verdict on what is left of it is the verdict on all of it.
use Rattle.std.specs.Prelude.{◌≡◌, ℕ, ◌≤◌, List, ◌++◌, length, true, Result, OnOk}
use Rattle.psi_past.specs.Seeded.{Seeded}
use Rattle.psi_past.specs.SeedWord.{seed_word}
use Rattle.psi_rate.specs.Composition.{SystemParts}
use Rattle.psi_log_words.specs.Refusal.{Refusal}
use Rattle.psi_log.specs.Cursor.{Cursor}
use Rattle.psi_replay.specs.Verdict.{is_within}
use Rattle.psi_replay.specs.Passes.{left_with, judged_under, replayed}
use Rattle.psi_replay.specs.declared.answers.Verdict.{Verdict}
use Rattle.psi_replay.specs.declared.causes.Rejection.{Rejection}
use Rattle.psi_replay.specs.declared.progress.Progress.{Progress}
use Rattle.psi_replay.specs.declared.progress.Progress.TheVariants.{Unread, Begun, Lost}

-- `left_with`, under the words of the log's seed and stream
abbrev pub left_under : {E : Type 0} → (E → List ℕ → List ℕ) → SystemParts E → Cursor → List ℕ → Result (Unit {0}) Rejection → Result Verdict Refusal
left_under function system c = left_with function system (seed_word c.header.seed c.header.stream) c

-- the words are those of the log's seed and stream, and where no rule is broken its region is one of the network's
pub record IsJudged (caps : List ℕ) (past : Seeded) (judged : Result (Unit {0}) Rejection) (c : Cursor) : Type 0 where
  pub words : seed_word past.seed past.stream ≡ seed_word c.header.seed c.header.stream
  pub queues : OnOk judged (c.header.queues ≡ length caps)
  pub within : OnOk judged (is_within caps c.region ≡ true)

-- `IsJudged`, of a progress that has begun
abbrev pub IsSound : List ℕ → Progress → Type 0
IsSound caps Unread = Unit {0}
IsSound caps (Begun reading) = IsJudged caps reading.past reading.judged reading.cursor
IsSound caps Lost = Unit {0}

-- a text that was taken is determined by a progress and what is pending of it: the verdict is the same whatever comes after, unless the text is too long
abbrev pub IsProgress : {E : Type 0} → (E → List ℕ → List ℕ) → SystemParts E → List ℕ → List ℕ → Progress → Type 0
IsProgress function system taken pending Unread = taken ≡ pending
IsProgress function system taken pending (Begun reading) =
    (more : List ℕ) → length (taken ++ more) ≤ 33554432 → replayed (judged_under function system) (taken ++ more) ≡ left_under function system reading.cursor (pending ++ more) reading.judged
IsProgress function system taken pending Lost = Unit {0}
