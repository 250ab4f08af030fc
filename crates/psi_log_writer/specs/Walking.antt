-- The text of the log of a run, from one step to the next.
use Rattle.std.specs.Prelude.{◌≡◌, ℕ, zero, suc, ◌+◌, ◌-◌, ◌*◌, ◌^◌, ◌<◌, ◌≤◌, slice_index, List, [], ◌++◌, length, map, true, nat_lt, if◌then◌else◌, Option, Some, None, IfSome}
use Rattle.psi_state.specs.State.{Corners, IsBelow, numbers_from}
use Rattle.psi_rate.specs.Composition.{Functions, SystemParts, system_functions}
use Rattle.psi_region.specs.Region.{Area, start, ShowsBox}
use Rattle.psi_horizon.specs.Planned.{Planned}
use Rattle.psi_horizon.specs.Runs.{region_after}
use Rattle.psi_log_format.specs.declared.header.Header.{Header}
use Rattle.psi_log_format.specs.Log.{in_box}
use Rattle.psi_log_format.specs.Text.{region_words, move_words, next_words, header_text, begin_text, step_text, end_text, entries_text}
use Rattle.psi_log_writer.specs.Recorded.{region_of, entry_after}
use Rattle.psi_replay.specs.Verdict.{event_numbers}

-- the words of a box after another box, or after a set
abbrev pub box_words : Option Corners → Corners → List (List ℕ)
box_words None to = region_words (in_box to)
box_words (Some from) to = move_words from to

-- how many bytes of lines may be held where what stands at a place is put after them: only the line of a step is put after others
abbrev pub most_held : ℕ → ℕ → ℕ
most_held horizon zero = 0
most_held horizon (suc zero) = 0
most_held horizon (suc (suc done)) = if nat_lt done horizon then 8192 else 0

-- what a run tells of its region's box: its corners where it isn't split, in their order and within the capacities
pub record IsTold (caps : List ℕ) (a : Area) (told : Option Corners) : Type 0 where
  pub shown : ShowsBox a told
  pub ordered : IfSome told (λ b. IsBelow b.lo b.hi)
  pub within : IfSome told (λ b. IsBelow b.hi caps)

-- a region is a set, and the lines of so many steps from it on, with the last line, surely fit in the room: a number of customers has at most five digits
pub record IsAmple (caps : List ℕ) (a : Area) (left room : ℕ) : Type 0 where
  pub split : a.is_split ≡ true
  pub enough : left * (22 + length a.states * (6 * length caps + 1)) + 200 ≤ room

-- the lines of so many steps of any run, with the last line, surely fit in the room: a box's words are at most those of all its queues, and a set has at most the split number of
-- states, where no capacity has more digits than the given number
pub record IsRoomy (caps : List ℕ) (split left room : ℕ) : Type 0 where
  pub digits : ℕ
  pub width : ℕ
  pub some : 0 < digits
  pub numbers : (i : ℕ) → slice_index caps i < 10 ^ digits
  pub boxes : 23 + length caps * (2 * digits + 5) ≤ width
  pub sets : 23 + split * suc (length caps * suc digits) ≤ width
  pub enough : left * width + 200 ≤ room

-- the runs of a network with this split number, these functions, these capacities and these events
module _ (split : ℕ) (f : Functions) (caps : List ℕ) (events : ℕ → ℕ) where
  -- the line of the step that comes after so many steps of the run of a horizon
  unfoldable pub step_line : ℕ → ℕ → List ℕ
  step_line horizon done =
      let e = entry_after split f caps events horizon done in
      step_text e.step (next_words 2 (region_of (region_after split f caps horizon done)) e.region)

  -- the text of a log up to the line of the next step, where so many are written
  unfoldable pub front_text : Header → ℕ → List ℕ
  front_text h done =
      header_text h ++ begin_text (region_of (start caps))
      ++ entries_text h.version (region_of (start caps)) (map (entry_after split f caps events h.horizon) (numbers_from 0 done))

  -- what stands at a place of a log: the lines of the header at 0, that of the begin at 1, those of the steps, and after them that of the end
  unfoldable pub line_at : Header → List ℕ → ℕ → List ℕ
  line_at h state zero = header_text h
  line_at h state (suc zero) = begin_text (region_of (start caps))
  line_at h state (suc (suc done)) = if nat_lt done h.horizon then step_line h.horizon done else end_text state

  -- the text of a log up to a place
  unfoldable pub text_before : Header → List ℕ → ℕ → List ℕ
  text_before h state zero = []
  text_before h state (suc place) = text_before h state place ++ line_at h state place

-- `step_line`, of a network's runs under these words
abbrev pub line_of : {E : Type 0} → (E → List ℕ → List ℕ) → SystemParts E → (ℕ → ℕ) → ℕ → ℕ → List ℕ
line_of function system words horizon done =
    step_line system.split (system_functions function system words) system.caps (event_numbers system words) horizon done

-- `line_at`, of a network's runs under these words
abbrev pub line_in : {E : Type 0} → (E → List ℕ → List ℕ) → SystemParts E → (ℕ → ℕ) → Header → List ℕ → ℕ → List ℕ
line_in function system words h state place =
    line_at system.split (system_functions function system words) system.caps (event_numbers system words) h state place

-- `text_before`, of a network's runs under these words
abbrev pub text_in : {E : Type 0} → (E → List ℕ → List ℕ) → SystemParts E → (ℕ → ℕ) → Header → List ℕ → ℕ → List ℕ
text_in function system words h state place =
    text_before system.split (system_functions function system words) system.caps (event_numbers system words) h state place

-- what is told of the region of a network's run after so many steps
abbrev pub IsToldAfter : {E : Type 0} → (E → List ℕ → List ℕ) → SystemParts E → (ℕ → ℕ) → ℕ → ℕ → Option Corners → Type 0
IsToldAfter function system words horizon done told =
    IsTold system.caps (region_after system.split (system_functions function system words) system.caps horizon done) told

-- there is ample room, as `IsAmple` says it, after so many steps of a network's run
abbrev pub IsAmpleAfter : {E : Type 0} → (E → List ℕ → List ℕ) → SystemParts E → (ℕ → ℕ) → ℕ → ℕ → ℕ → ℕ → Type 0
IsAmpleAfter function system words left room horizon done =
    IsAmple system.caps (region_after system.split (system_functions function system words) system.caps horizon done) left room

-- a plan that is at a place of the log of the run of a horizon: from the first step's place to that of the end so many steps are done, and this is told of the region after them
pub record IsWalking {E P : Type 0} (function : E → List ℕ → List ℕ) (words : P → ℕ → ℕ) (plan : Planned E P) (horizon place : ℕ) (told : Option Corners) : Type 0 where
  pub begun : 2 ≤ place → place ≤ horizon + 2 → plan.run ≡ Some (record { horizon = horizon; done = place - 2 })
  pub region : 2 ≤ place → place ≤ horizon + 2 → IsToldAfter function plan.system (words plan.past) horizon (place - 2) told
