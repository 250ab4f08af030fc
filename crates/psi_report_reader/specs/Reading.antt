-- The report that a text is.
use Rattle.std.specs.Prelude.{◌≡◌, ℕ, ◌+◌, ◌^◌, ◌<◌, ℤ, List, [], ◌∷◌, ◌++◌, codes, length, All, Bool, true, false, ◌==◌, Option, Some, None, Result, Ok, Err, if◌then◌else◌}
use Rattle.std.specs.Int.RustNames.{unsigned_abs}
use Rattle.std.specs.List.{slice_split}
use Rattle.std.specs.Str.{bytes_eq, is_utf8}
use Rattle.psi_net_model.specs.Name.{name_of, is_name}
use Rattle.psi_report.specs.declared.figure.Item.{Item}
use Rattle.psi_report.specs.declared.figure.Item.TheVariants.{Sum, Least, Greatest, RewardSum, RewardLeast, RewardGreatest}
use Rattle.psi_report.specs.declared.figure.HorizonCount.{HorizonCount}
use Rattle.psi_report.specs.declared.figure.Figure.{Figure}
use Rattle.psi_report_reader.specs.declared.error.ReadError.{ReadError}
use Rattle.psi_report_reader.specs.declared.error.ReadError.TheVariants.{Refused, OutOfMemory}
use Rattle.psi_report.specs.Contents.{Contents}
use Rattle.psi_report_reader.specs.Numbers.{count_in, integer_of}
use Rattle.psi_report.specs.Text.{text_of}

-- a report without contents yet
abbrev pub blank : Contents
blank = record { samples = 0; met = 0; horizons = []; figures = [] }

-- a line feed
abbrev pub is_feed : ℕ → Bool
is_feed byte = byte == 10

-- a comma
abbrev pub is_comma : ℕ → Bool
is_comma byte = byte == 44

-- the item of a figure's row
unfoldable pub item_of : List ℕ → Option Item
item_of word =
    if bytes_eq word (codes "sum") then Some Sum
    else if bytes_eq word (codes "least") then Some Least
    else if bytes_eq word (codes "greatest") then Some Greatest
    else if bytes_eq word (codes "reward-sum") then Some RewardSum
    else if bytes_eq word (codes "reward-least") then Some RewardLeast
    else if bytes_eq word (codes "reward-greatest") then Some RewardGreatest
    else None

-- the name that a field is
unfoldable pub name_in : List ℕ → Option (List ℕ)
name_in word = if is_utf8 word then name_of word else None

-- a report that tells one thing more
module _ (c : Contents) where
  -- the number of samples
  abbrev pub with_samples : Option ℕ → Option Contents
  with_samples None = None
  with_samples (Some n) = Some (record c { samples = n })

  -- the number of samples that are met
  abbrev pub with_met : Option ℕ → Option Contents
  with_met None = None
  with_met (Some n) = Some (record c { met = n })

  -- how many samples have a horizon
  abbrev pub with_horizon : Option ℕ → Option ℕ → Option Contents
  with_horizon (Some t) (Some n) = Some (record c { horizons = c.horizons ++ record { horizon = t; count = n } ∷ [] })
  with_horizon _ _ = None

  -- a figure
  abbrev pub with_figure : Option Item → Option (List ℕ) → Option ℤ → Option Contents
  with_figure (Some item) (Some name) (Some value) = Some (record c { figures = c.figures ++ record { item = item; name = name; value = value } ∷ [] })
  with_figure _ _ _ = None

  -- what a row tells; the heading, and the number of samples that aren't met, tell nothing more
  unfoldable pub with_fields : (item name value : List ℕ) → Option Contents
  with_fields item name value =
      if bytes_eq item (codes "item") then Some c
      else if bytes_eq item (codes "samples") then with_samples (count_in value)
      else if bytes_eq item (codes "met") then with_met (count_in value)
      else if bytes_eq item (codes "uncoupled") then Some c
      else if bytes_eq item (codes "horizon") then with_horizon (count_in name) (count_in value)
      else with_figure (item_of item) (name_in name) (integer_of value)

  -- what a line's fields tell: three, or nothing after the last line feed
  unfoldable pub with_row : List (List ℕ) → Option Contents
  with_row (item ∷ name ∷ value ∷ []) = with_fields item name value
  with_row (only ∷ []) = if length only == 0 then Some c else None
  with_row _ = None

-- once a line is read: what the lines after it tell, or its refusal
abbrev pub behind : ℕ → (Contents → Result Contents ℕ) → Option Contents → Result Contents ℕ
behind n rest None = Err n
behind n rest (Some c) = rest c

-- what lines tell, from line n on, where c is told before them; or the first line that isn't a row of a report
unfoldable pub read_lines : ℕ → Contents → List (List ℕ) → Result Contents ℕ
read_lines n c [] = Ok c
read_lines n c (line ∷ lines) = behind n (λ d. read_lines (n + 1) d lines) (with_row c (slice_split is_comma line))

-- a report whose text is the one that was read; else no line alone is refused, but the whole
abbrev pub matching : List ℕ → Result Contents ℕ → Result Contents ℕ
matching text (Ok c) = if bytes_eq (text_of c) text then Ok c else Err 0
matching text (Err n) = Err n

-- the report that a text is; or the line that is refused, counted from 1, or 0 for the text as a whole
unfoldable pub read : List ℕ → Result Contents ℕ
read text = matching text (read_lines 1 blank (slice_split is_feed text))

-- a row is told too, or refused
abbrev pub Took : Bool → Contents → Option Contents → Type 0
Took true c reading = reading ≡ Some c
Took false c reading = reading ≡ None

-- what a report can tell: numbers of 64 bits, and figures under names whose magnitudes are less than 10^37
pub record IsReport (c : Contents) : Type 0 where
  pub samples : c.samples < 2 ^ 64
  pub met : c.met < 2 ^ 64
  pub horizons : All (λ (h : HorizonCount). (h.horizon < 2 ^ 64) × (h.count < 2 ^ 64)) c.horizons
  pub figures : All (λ (f : Figure). (is_name f.name ≡ true) × (unsigned_abs f.value < 10 ^ 37)) c.figures

-- a text that is read is that of the report
abbrev pub ReadIsText : Type 0
ReadIsText = (text : List ℕ) (c : Contents) → read text ≡ Ok c → text_of c ≡ text

-- and the text of each report is read as this report
abbrev pub TextIsRead : Type 0
TextIsRead = (c : Contents) → IsReport c → read (text_of c) ≡ Ok c

-- the answer is the reading's, unless an allocation fails
abbrev pub Gives : Result Contents ReadError → Result Contents ℕ → Type 0
Gives (Ok c) reading = reading ≡ Ok c
Gives (Err (Refused line)) reading = reading ≡ Err line
Gives (Err OutOfMemory) reading = Unit {0}
