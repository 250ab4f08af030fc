-- The lines of a report by which it is judged, and what merging says of the names that reports show.
use Rattle.std.specs.Prelude.{◌≡◌, ◌≢◌, ℕ, ◌+◌, ◌-◌, ◌^◌, ◌<◌, List, ◌∷◌, ◌++◌, map, length, take, drop, Bool, false, ◌||◌, Option, Some, None, Result, Ok, Err, if◌then◌else◌}
use Rattle.std.specs.List.{slice_split, slice_get}
use Rattle.std.specs.Str.{bytes_eq}
use Rattle.psi_state.specs.declared.Outcome.{Outcome}
use Rattle.psi_net_model.specs.Network.{Network, NamedReward}
use Rattle.psi_net_model.specs.declared.entries.Queue.{Queue}
use Rattle.psi_report.specs.Report.{report_text, contents_of}
use Rattle.psi_report.specs.declared.figure.Item.{Item}
use Rattle.psi_report.specs.declared.figure.Item.TheVariants.{Sum, RewardSum}
use Rattle.psi_report.specs.declared.figure.HorizonCount.{HorizonCount}
use Rattle.psi_report.specs.declared.figure.Figure.{Figure}
use Rattle.psi_report_reader.specs.declared.error.MergeError.{MergeError}
use Rattle.psi_report_reader.specs.declared.error.MergeError.TheVariants.{OtherNetwork}
use Rattle.psi_report.specs.Contents.{Contents}
use Rattle.psi_report.specs.Text.{item_text, figure_row, count_row, contents_rows, text_of}
use Rattle.psi_report_reader.specs.Reading.{is_feed, IsReport}
use Rattle.psi_report_reader.specs.Samples.{IsDescribed, AreOf}
use Rattle.psi_report_reader.specs.Sound.{horizon_line, figure_line, flaw_of}
use Rattle.psi_report_reader.specs.Merging.{sums_of, line_of_sum, joined, merged}

-- the lines of a text; the last is what stands after the last line feed
abbrev pub lines_of : List ℕ → List (List ℕ)
lines_of text = slice_split is_feed text

-- two texts have the same first lines
abbrev pub BeginAlike : ℕ → List ℕ → List ℕ → Type 0
BeginAlike n text other = take n (lines_of text) ≡ take n (lines_of other)

-- a report whose text has less than 2^62 lines, so that numbers of 64 bits tell all lines
pub record IsNumbered (c : Contents) : Type 0 where
  pub report : IsReport c
  pub few : length (lines_of (text_of c)) < 2 ^ 62

-- ---- where rows stand

-- the row on a line, counted from 1
abbrev pub row_on : Contents → ℕ → Option (List (List ℕ))
row_on c line = slice_get (contents_rows c) (line - 1)

-- each horizon and each figure stands on its line, and so does each sum where no line is wrong
pub record StandOnLines (c : Contents) : Type 0 where
  pub horizons : (k : ℕ) (h : HorizonCount) → slice_get c.horizons k ≡ Some h → row_on c (horizon_line k) ≡ Some (count_row h)
  pub figures : (k : ℕ) (f : Figure) → slice_get c.figures k ≡ Some f → row_on c (figure_line c k) ≡ Some (figure_row f)
  pub sums : flaw_of c ≡ None → (k : ℕ) (f : Figure) → slice_get (sums_of c.figures) k ≡ Some f → row_on c (line_of_sum c k) ≡ Some (figure_row f)

-- so it is with each report
abbrev pub RowsStandOnLines : Type 0
RowsStandOnLines = (c : Contents) → IsNumbered c → StandOnLines c

-- ---- wrong lines

-- the first row has the sum of a queue or of a reward
abbrev pub begins_with_sum : List (List (List ℕ)) → Bool
begins_with_sum ((item ∷ fields) ∷ rows) = bytes_eq item (item_text Sum) || bytes_eq item (item_text RewardSum)
begins_with_sum _ = false

-- by how many lines a line is judged: by those up to it, and where it has a sum by two more, which may have its extremes
unfoldable pub lines_judged : Contents → ℕ → ℕ
lines_judged c line = if begins_with_sum (drop (line - 1) (contents_rows c)) then line + 2 else line

-- no samples have a report with the lines by which a line of another is wrong
abbrev pub WrongLinesAreNone : Type 0
WrongLinesAreNone = (c : Contents) (line : ℕ) → IsNumbered c → flaw_of c ≡ Some line
    → (net : Network) (outcomes : List Outcome) → AreOf net outcomes → length outcomes < 2 ^ 64
    → BeginAlike (lines_judged c line) (text_of c) (report_text net outcomes) → ⊥

-- ---- other networks

-- what a report shows of its network: of each queue and each reward that it is one, and its name
abbrev pub shown : Contents → List (Item × List ℕ)
shown c = map (λ (f : Figure). (f.item, f.name)) (sums_of c.figures)

-- and what a network shows in its reports
abbrev pub shown_of : Network → List (Item × List ℕ)
shown_of net = map (λ (q : Queue). (Sum, q.name)) net.queues ++ map (λ (r : NamedReward). (RewardSum, r.name)) net.rewards

-- a network that a file may describe shows what the report does
pub record ShowsNetwork (c : Contents) : Type 0 where
  pub net : Network
  pub described : IsDescribed net
  pub same : shown c ≡ shown_of net

-- so it is with each report in which no line is wrong
abbrev pub ReportsShowNetworks : Type 0
ReportsShowNetworks = (c : Contents) → IsReport c → flaw_of c ≡ None → ShowsNetwork c

-- two reports show the same, unless the answer to their merging is that they are of other networks
abbrev pub TellsNetwork : Contents → Contents → Result Contents MergeError → Type 0
TellsNetwork a b (Err (OtherNetwork line)) = shown a ≢ shown b
TellsNetwork a b answer = shown a ≡ shown b

-- reports are of other networks exactly where they show other queues or rewards
abbrev pub NetworksAreTold : Type 0
NetworksAreTold = (a b : Contents) → TellsNetwork a b (merged a b)

-- no samples of a network of which the first report is have one with the lines up to that by which the second is of another network
abbrev pub OtherLinesAreNone : Type 0
OtherLinesAreNone = (a b : Contents) (line : ℕ) → IsNumbered b → flaw_of b ≡ None → merged a b ≡ Err (OtherNetwork line)
    → (net : Network) (outcomes others : List Outcome) → AreOf net outcomes → AreOf net others → length others < 2 ^ 64 → contents_of net outcomes ≡ a
    → BeginAlike line (text_of b) (report_text net others) → ⊥

-- ---- what is merged

-- the report of two reports is one: each of its numbers can be told
abbrev pub MergedIsReport : Type 0
MergedIsReport = (a b c : Contents) → IsReport a → IsReport b → merged a b ≡ Ok c → IsReport c

-- and two that show the same are merged where what they tell together can be told
abbrev pub FittingAreMerged : Type 0
FittingAreMerged = (a b : Contents) → shown a ≡ shown b → IsReport (joined a b) → merged a b ≡ Ok (joined a b)
