-- The report of two lists of samples of one network, from the report of each.
use Rattle.std.specs.Prelude.{◌≡◌, ℕ, ◌+◌, ◌*◌, ◌^◌, ◌<◌, ℤ, ◌+ℤ◌, List, [], ◌∷◌, ◌++◌, length, filter, Bool, ◌&&◌, ◌==◌, nat_lt, Option, Some, None, Result, Ok, Err, if◌then◌else◌}
use Rattle.std.specs.Int.{int_min, int_max}
use Rattle.std.specs.Int.RustNames.{unsigned_abs}
use Rattle.std.specs.List.{list_all}
use Rattle.psi_state.specs.declared.Outcome.{Outcome}
use Rattle.psi_net_model.specs.Network.{Network}
use Rattle.psi_report.specs.Joined.{paired}
use Rattle.psi_report.specs.declared.figure.Item.{Item}
use Rattle.psi_report.specs.declared.figure.Item.TheVariants.{Sum, Least, Greatest, RewardSum, RewardLeast, RewardGreatest}
use Rattle.psi_report.specs.declared.figure.HorizonCount.{HorizonCount}
use Rattle.psi_report.specs.declared.figure.Figure.{Figure}
use Rattle.psi_report_reader.specs.declared.error.MergeError.{MergeError}
use Rattle.psi_report_reader.specs.declared.error.MergeError.TheVariants.{OtherNetwork, TooLarge, OutOfMemory}
use Rattle.psi_report.specs.Contents.{Contents}
use Rattle.psi_report_reader.specs.Counts.{joined_counts}
use Rattle.psi_report_reader.specs.Sound.{is_sum, is_alike, figure_line, figures_line}
use Rattle.psi_report.specs.Report.{contents_of}
use Rattle.psi_report_reader.specs.Small.{AreSamples}
use Rattle.psi_report_reader.specs.Samples.{AreOf}

-- the sums of a report, one for each queue and each reward
abbrev pub sums_of : List Figure → List Figure
sums_of figures = filter (λ f. is_sum f.item) figures

-- the first place at which two lists of sums aren't of the same queue or reward, counted from k; none where they are of the same ones
abbrev pub difference : ℕ → List Figure → List Figure → Option ℕ
difference k [] [] = None
difference k [] (g ∷ gs) = Some k
difference k (f ∷ fs) [] = Some k
difference k (f ∷ fs) (g ∷ gs) = if is_alike f g then difference (k + 1) fs gs else Some k

-- the line of a report's k-th sum: after four rows and those of the horizons; the extremes follow each sum where any sample is met
abbrev pub line_of_sum : Contents → ℕ → ℕ
line_of_sum c k = figure_line c (if c.met == 0 then k else 3 * k)

-- what an item's two values come to together
abbrev pub joined_value : Item → ℤ → ℤ → ℤ
joined_value Sum y z = y +ℤ z
joined_value RewardSum y z = y +ℤ z
joined_value Least y z = int_min y z
joined_value RewardLeast y z = int_min y z
joined_value Greatest y z = int_max y z
joined_value RewardGreatest y z = int_max y z

-- what two figures of an item come to together
abbrev pub joined_figure : Figure → Figure → Figure
joined_figure f g = record { item = f.item; name = f.name; value = joined_value f.item f.value g.value }

-- the figures of two lists of samples together, of which so many are met: those of one alone where none of the other are met
abbrev pub joined_figures : ℕ → ℕ → List Figure → List Figure → List Figure
joined_figures m n fs gs = if m == 0 then gs else if n == 0 then fs else paired joined_figure fs gs

-- what the report of two lists of samples together tells
unfoldable pub joined : Contents → Contents → Contents
joined a b = record {
  samples = a.samples + b.samples;
  met = a.met + b.met;
  horizons = joined_counts a.horizons b.horizons;
  figures = joined_figures a.met b.met a.figures b.figures;
}

-- a number of 64 bits
abbrev pub is_count : ℕ → Bool
is_count n = nat_lt n (2 ^ 64)

-- a magnitude less than 10^37
abbrev pub is_value : ℤ → Bool
is_value z = nat_lt (unsigned_abs z) (10 ^ 37)

-- the counts of the horizons are such numbers
abbrev pub counts_fit : List HorizonCount → Bool
counts_fit counts = list_all (λ c. is_count c.count) counts

-- the first place, from k on, of a figure that hasn't such a magnitude
abbrev pub large_figure : ℕ → List Figure → Option ℕ
large_figure k [] = None
large_figure k (f ∷ fs) = if is_value f.value then large_figure (k + 1) fs else Some k

-- the line of the second report with which the first number of both is too large: that of the samples; that of those that are met, where they or those of a
-- horizon are too many; else that of a figure
unfoldable pub too_large : Contents → Contents → Option ℕ
too_large b c =
    if is_count c.samples then
    if is_count c.met && counts_fit c.horizons then figures_line b (large_figure 0 c.figures) else Some 3
    else Some 2

-- the report of both, unless a number is too large
abbrev pub fitting_unless : Option ℕ → Contents → Result Contents MergeError
fitting_unless (Some line) c = Err (TooLarge line)
fitting_unless None c = Ok c

-- the report of both, where its numbers fit
abbrev pub fitting : Contents → Contents → Result Contents MergeError
fitting b c = fitting_unless (too_large b c) c

-- the report of both, unless a sum of the second isn't of the queue or the reward of the first
abbrev pub merged_unless : Option ℕ → Contents → Contents → Result Contents MergeError
merged_unless (Some k) a b = Err (OtherNetwork (line_of_sum b k))
merged_unless None a b = fitting b (joined a b)

-- two reports, merged; or why they aren't
unfoldable pub merged : Contents → Contents → Result Contents MergeError
merged a b = merged_unless (difference 0 (sums_of a.figures) (sums_of b.figures)) a b

-- the answer is the merging's, unless an allocation fails
abbrev pub Merges : Result Contents MergeError → Result Contents MergeError → Type 0
Merges (Ok c) merging = merging ≡ Ok c
Merges (Err OutOfMemory) merging = Unit {0}
Merges (Err error) merging = merging ≡ Err error

-- the reports of two lists of samples of one network are merged into the report of both lists, one after another
abbrev pub ReportsAreMerged : Type 0
ReportsAreMerged = (net : Network) (outcomes others : List Outcome) → AreSamples net (outcomes ++ others)
    → merged (contents_of net outcomes) (contents_of net others) ≡ Ok (contents_of net (outcomes ++ others))

-- and so are those of less than 2^64 samples together of a network that a file may describe
abbrev pub SamplesAreMerged : Type 0
SamplesAreMerged = (net : Network) (outcomes others : List Outcome) → AreOf net (outcomes ++ others) → length (outcomes ++ others) < 2 ^ 64
    → merged (contents_of net outcomes) (contents_of net others) ≡ Ok (contents_of net (outcomes ++ others))
