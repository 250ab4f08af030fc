-- The text of a log, line by line. A line is words with one space between two, and a line feed after the last.
use Rattle.std.specs.Prelude.{◌≡◌, ℕ, ◌≤◌, List, [], ◌∷◌, ◌++◌, length, slice_index, map, filter, codes, Bool, not, ◌&&◌, ◌==◌, if◌then◌else◌}
use Rattle.std.specs.List.{join_with_byte}
use Rattle.std.specs.Fmt.{decimal}
use Rattle.psi_state.specs.State.{Corners, numbers_from}
use Rattle.psi_state.specs.declared.outcome.Step.{Step}
use Rattle.psi_log_format.specs.declared.header.Header.{Header}
use Rattle.psi_log_format.specs.Log.{LogRegion, in_box, in_set, Entry, Certificate, IsLog}

-- the line of these words
unfoldable pub line_text : List (List ℕ) → List ℕ
line_text words = join_with_byte 32 words ++ codes "\n"

-- the word of a state: its numbers joined by commas
unfoldable pub numbers_text : List ℕ → List ℕ
numbers_text numbers = join_with_byte 44 (map decimal numbers)

-- the words of a line that names a number
abbrev pub number_words : List ℕ → ℕ → List (List ℕ)
number_words name n = name ∷ decimal n ∷ []

-- the five lines of a header
unfoldable pub header_text : Header → List ℕ
header_text h =
    line_text (number_words (codes "psi-log") h.version)
    ++ line_text (number_words (codes "queues") h.queues)
    ++ line_text (number_words (codes "seed") h.seed)
    ++ line_text (number_words (codes "stream") h.stream)
    ++ line_text (number_words (codes "horizon") h.horizon)

-- the words of a region that is written whole
abbrev pub region_words : LogRegion → List (List ℕ)
region_words (in_box bounds) = codes "box" ∷ numbers_text bounds.lo ∷ numbers_text bounds.hi ∷ []
region_words (in_set states) = codes "set" ∷ map numbers_text states

-- a queue, with the least and the greatest number of customers that it holds in a box
pub record Change : Type 0 where
  pub queue : ℕ
  pub least : ℕ
  pub greatest : ℕ

-- a queue holds other numbers of customers in one box than in the other
abbrev pub differs : Corners → Corners → ℕ → Bool
differs from to q = not (slice_index from.lo q == slice_index to.lo q && slice_index from.hi q == slice_index to.hi q)

-- a queue as it is in a box
abbrev pub change_to : Corners → ℕ → Change
change_to to q = record { queue = q; least = slice_index to.lo q; greatest = slice_index to.hi q }

-- the queues that changed from one box to another, in ascending order, as they are in the other
unfoldable pub changes : Corners → Corners → List Change
changes from to = map (change_to to) (filter (differs from to) (numbers_from 0 (length from.lo)))

-- the word of a change: its three numbers joined by commas
abbrev pub change_text : Change → List ℕ
change_text c = numbers_text (c.queue ∷ c.least ∷ c.greatest ∷ [])

-- the words of a box that is written by what changed from the box before it
abbrev pub move_words : Corners → Corners → List (List ℕ)
move_words from to = codes "move" ∷ map change_text (changes from to)

-- the words of the region after a step: in version 2 a box after a box is written by what changed, each other region whole
abbrev pub next_words : ℕ → LogRegion → LogRegion → List (List ℕ)
next_words version (in_box from) (in_box to) = if version == 2 then move_words from to else region_words (in_box to)
next_words version (in_box from) (in_set states) = region_words (in_set states)
next_words version (in_set before) region = region_words region

-- the line of the region at which the run begins
unfoldable pub begin_text : LogRegion → List ℕ
begin_text region = line_text (codes "begin" ∷ region_words region)

-- the line of a step, with the words of the region after it
unfoldable pub step_text : Step → List (List ℕ) → List ℕ
step_text s region = line_text (codes "step" ∷ decimal s.number ∷ decimal s.event ∷ region)

-- the line of the state at time zero
unfoldable pub end_text : List ℕ → List ℕ
end_text x = line_text (codes "end" ∷ numbers_text x ∷ [])

-- the lines of steps, each by the region before it
abbrev pub entries_text : ℕ → LogRegion → List Entry → List ℕ
entries_text version before [] = []
entries_text version before (e ∷ es) = step_text e.step (next_words version before e.region) ++ entries_text version e.region es

-- the text of a log
unfoldable pub log_text : Certificate → List ℕ
log_text c = header_text c.header ++ begin_text c.begin ++ entries_text c.header.version c.begin c.entries ++ end_text c.final

-- the bytes are the text of a log, and not more of them than a log may have
pub record IsLogOf (bytes : List ℕ) (c : Certificate) : Type 0 where
  pub log : IsLog c
  pub text : bytes ≡ log_text c
  pub few : length bytes ≤ 33554432
