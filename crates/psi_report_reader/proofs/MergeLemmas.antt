-- Reports that are merged, part by part.
use Rattle.std.specs.Prelude.{◌≡◌, ℕ, ◌+◌, ◌^◌, ◌<◌, ◌≤◌, List, [], ◌∷◌, length, slice_index_or, All, true, false, Some, None, Result, Ok, Err, refl}
use Rattle.std.proofs.Common.{arith}
use Rattle.std.proofs.lemmas.Bool.{lt-ltb, le-ltb}
use Rattle.std.proofs.lemmas.Bool.Decides.{nat_tests}
use Rattle.std.proofs.lemmas.List.Elements.{All-head, All-tail}
use Rattle.std.proofs.lemmas.List.Sums.{list_all-from_AllPass}
use Rattle.std.specs.Int.RustNames.{unsigned_abs}
use Rattle.psi_report_reader.specs.Reading.{IsReport}
use Rattle.psi_report.specs.declared.figure.HorizonCount.{HorizonCount}
use Rattle.psi_report.specs.declared.figure.Figure.{Figure}
use Rattle.psi_report_reader.specs.declared.error.MergeError.{MergeError}
use Rattle.psi_report_reader.specs.declared.error.MergeError.TheVariants.{OtherNetwork, TooLarge}
use Rattle.psi_report.specs.Contents.{Contents}
use Rattle.psi_report_reader.specs.Counts.{joined_counts}
use Rattle.psi_report_reader.specs.Sound.{line_at}
use Rattle.psi_report_reader.specs.Merging.{sums_of, difference, line_of_sum, is_count, counts_fit, large_figure, too_large, joined_figures, joined, fitting, merged, Merges}
use Rattle.psi_report_reader.proofs.FieldLemmas.{FitsCount, FitsFigure}

pub accepted : (b c : Contents) → too_large b c ≡ None → fitting b c ≡ Ok c
accepted b c is = rw is refl

-- the first number that is too large
module _ (a b : Contents) where
  pub samples-large : 18446744073709551616 ≤ a.samples + b.samples → fitting b (joined a b) ≡ Err (TooLarge 2)
  unfolding joined too_large
  samples-large large = rw (le-ltb (a.samples + b.samples) 18446744073709551616 large) refl

  module _ (few : a.samples + b.samples < 18446744073709551616) where
    pub met-large : 18446744073709551616 ≤ a.met + b.met → fitting b (joined a b) ≡ Err (TooLarge 3)
    unfolding joined too_large
    met-large large = grind (arith, nat_tests)

    pub counts-large : counts_fit (joined_counts a.horizons b.horizons) ≡ false → fitting b (joined a b) ≡ Err (TooLarge 3)
    unfolding joined too_large
    counts-large large = grind (arith, nat_tests)

    module _ (some : a.met + b.met < 18446744073709551616) (counts_are : counts_fit (joined_counts a.horizons b.horizons) ≡ true) where
      pub figures-large : (k first line : ℕ) → large_figure 0 (joined_figures a.met b.met a.figures b.figures) ≡ Some k
          → first ≡ line_at (5 + length b.horizons) → line ≡ line_at (first + k) → fitting b (joined a b) ≡ Err (TooLarge line)
      unfolding joined too_large
      figures-large k first line large begin at =
          let whole : line_at ((5 + length b.horizons) + k) ≡ line = omega arith in
          rw (lt-ltb (a.samples + b.samples) 18446744073709551616 few, lt-ltb (a.met + b.met) 18446744073709551616 some, counts_are, large, whole) refl

  -- all parts fit
  pub parts-fit : (s m : ℕ) (hs : List HorizonCount) (fs : List Figure) → s < 18446744073709551616 → s ≡ a.samples + b.samples → m < 18446744073709551616 → m ≡ a.met + b.met
      → hs ≡ joined_counts a.horizons b.horizons → counts_fit hs ≡ true → fs ≡ joined_figures a.met b.met a.figures b.figures → large_figure 0 fs ≡ None
      → fitting b (joined a b) ≡ Ok (record { samples = s; met = m; horizons = hs; figures = fs })
  unfolding joined too_large
  parts-fit s m hs fs few all some both counts counts_are figures figures_are =
      rw (← all, ← both, ← counts, ← figures, lt-ltb s 18446744073709551616 few, lt-ltb m 18446744073709551616 some, counts_are, figures_are) refl

-- another network, and one network
pub merged-other : (a b : Contents) (k : ℕ) → difference 0 (sums_of a.figures) (sums_of b.figures) ≡ Some k → merged a b ≡ Err (OtherNetwork (line_of_sum b k))
unfolding merged
merged-other a b k is = rw is refl

pub merged-same : (a b : Contents) (answer : Result Contents MergeError) → difference 0 (sums_of a.figures) (sums_of b.figures) ≡ None → Merges answer (fitting b (joined a b))
    → Merges answer (merged a b)
unfolding merged
merged-same a b answer is merges = rw is merges

pub merged-fitting : (a b : Contents) → difference 0 (sums_of a.figures) (sums_of b.figures) ≡ None → merged a b ≡ fitting b (joined a b)
unfolding merged
merged-fitting a b is = rw is refl

-- the numbers of a report fit
counts-fit : (cs : List HorizonCount) → All FitsCount cs → counts_fit cs ≡ true
counts-fit cs all = list_all-from_AllPass (λ (c : HorizonCount). is_count c.count) cs (λ k d less. lt-ltb (slice_index_or cs k d).count (2 ^ 64) (all k d less).1)

figures-fit : (k : ℕ) (fs : List Figure) → All FitsFigure fs → large_figure k fs ≡ None
figures-fit k [] all = refl
figures-fit k (f ∷ fs) all =
    rw (lt-ltb (unsigned_abs f.value) (10 ^ 37) (All-head FitsFigure f fs all).1) (figures-fit (k + 1) fs (All-tail FitsFigure f fs all))

pub report-fits : (b c : Contents) → IsReport c → too_large b c ≡ None
unfolding too_large
report-fits b c is = rw (lt-ltb c.samples 18446744073709551616 is.samples, lt-ltb c.met 18446744073709551616 is.met, counts-fit c.horizons is.horizons, figures-fit 0 c.figures is.figures) refl
