-- What a function that judges lines may answer, and the lines that it judges.
use Rattle.std.specs.Prelude.{◌≡◌, Option, Some, None, Result, Ok, Err}
use Rattle.psi_log_format.specs.Log.{LogRegion}
use Rattle.psi_log_words.specs.Refusal.{Refusal}
use Rattle.psi_replay.specs.Verdict.{rejected}
use Rattle.psi_log_format.specs.Listed.{shown}
use Rattle.psi_log_format.specs.declared.listed_region.BorrowedRegion.{BorrowedRegion as Borrowed}
use Rattle.psi_replay.specs.declared.causes.Rejection.{Rejection}
use Rattle.psi_replay.specs.declared.judging.StepLine.{StepLine}

-- the answer, seen by view, is what the rules give: a value, or the first line that breaks one with its cause
abbrev pub Gives : {X Y : Type 0} → (X → Y) → Result X Rejection → Result Y Refusal → Type 0
Gives view (Ok x) rules = rules ≡ Ok (view x)
Gives view (Err rejection) rules = rules ≡ Err (rejected rejection.line rejection.cause)

-- a region that may be borrowed, or else this one
abbrev pub shown_or : LogRegion → Option Borrowed → LogRegion
shown_or region None = region
shown_or region (Some before) = shown before

-- the region before the step of a line
abbrev pub region_before : StepLine → LogRegion
region_before line = shown_or (shown line.after) line.before
