-- What is merged is a report, and what can be told of two reports together is merged.
use Rattle.std.specs.Prelude.{◌≡◌, ℕ, ◌+◌, ◌^◌, ◌<◌, List, [], ◌∷◌, slice_index_or, All, true, ◌==◌, nat_lt, unsigned_abs, None}
use Rattle.std.proofs.Common.{◌∙◌, subst, arith}
use Rattle.std.proofs.lemmas.Bool.{cond_both, ltb-true}
use Rattle.std.proofs.lemmas.List.Elements.{All-nil, All-cons, All-head, All-tail, All-weaker}
use Rattle.std.proofs.lemmas.List.Sums.{AllPass-from_list_all}
use Rattle.psi_net_model.specs.Name.{is_name}
use Rattle.psi_report.specs.Joined.{paired}
use Rattle.psi_report.proofs.PairLemmas.{All-paired}
use Rattle.psi_report.specs.declared.figure.HorizonCount.{HorizonCount}
use Rattle.psi_report.specs.declared.figure.Figure.{Figure}
use Rattle.psi_report.specs.Contents.{Contents}
use Rattle.psi_report_reader.specs.Counts.{with_count, joined_counts}
use Rattle.psi_report_reader.specs.Reading.{IsReport}
use Rattle.psi_report_reader.specs.Merging.{is_count, is_value, counts_fit, large_figure, too_large, joined_figure, joined_figures, joined, merged}
use Rattle.psi_report_reader.specs.Lines.{MergedIsReport, FittingAreMerged}
use Rattle.psi_report_reader.proofs.FieldLemmas.{FitsCount, FitsFigure}
use Rattle.psi_report_reader.proofs.MergeLemmas.{accepted, merged-fitting, report-fits}
use Rattle.psi_report_reader.proofs.NetworkLemmas.{shown-same}
use Rattle.psi_report_reader.proofs.RightLemmas.{passed, no-line}

-- ---- the horizons of both

abbrev IsStep : HorizonCount → Type 0
IsStep h = h.horizon < 2 ^ 64

with-step : (k : HorizonCount) (cs : List HorizonCount) → IsStep k → All IsStep cs → All IsStep (with_count k cs)
with-step k [] own all = All-cons IsStep k [] own all
with-step k (c ∷ cs) own all =
    cond_both (k.horizon == c.horizon) (record { horizon = c.horizon; count = k.count + c.count } ∷ cs) _ (All IsStep)
    (λ same. All-cons IsStep (record { horizon = c.horizon; count = k.count + c.count }) cs (All-head IsStep c cs all) (All-tail IsStep c cs all))
    (λ apart. cond_both (nat_lt k.horizon c.horizon) (k ∷ c ∷ cs) (c ∷ with_count k cs) (All IsStep) (λ less. All-cons IsStep k (c ∷ cs) own all)
    (λ more. All-cons IsStep c (with_count k cs) (All-head IsStep c cs all) (with-step k cs own (All-tail IsStep c cs all))))

joined-steps : (cs ks : List HorizonCount) → All IsStep cs → All IsStep ks → All IsStep (joined_counts cs ks)
joined-steps [] ks all others = others
joined-steps (c ∷ cs) ks all others = with-step c (joined_counts cs ks) (All-head IsStep c cs all) (joined-steps cs ks (All-tail IsStep c cs all) others)

counts-told : (cs : List HorizonCount) → All IsStep cs → counts_fit cs ≡ true → All FitsCount cs
counts-told cs all fit k d less =
    (all k d less, ltb-true (slice_index_or cs k d).count (2 ^ 64) (AllPass-from_list_all (λ (c : HorizonCount). is_count c.count) cs fit k d less))

-- ---- the figures of both

abbrev IsNamed : Figure → Type 0
IsNamed f = is_name f.name ≡ true

joined-named : (m n : ℕ) (fs gs : List Figure) → All IsNamed fs → All IsNamed gs → All IsNamed (joined_figures m n fs gs)
joined-named m n fs gs all others =
    cond_both (m == 0) gs _ (All IsNamed) (λ none. others) (λ some. cond_both (n == 0) fs (paired joined_figure fs gs) (All IsNamed) (λ none. all)
    (λ more. All-paired joined_figure IsNamed IsNamed IsNamed (λ f own. own) (λ f g own other. own) fs gs all others))

figures-told : (k : ℕ) (fs : List Figure) → All IsNamed fs → large_figure k fs ≡ None → All FitsFigure fs
figures-told k [] all none = All-nil FitsFigure
figures-told k (f ∷ fs) all none =
    let small = passed (is_value f.value) (large_figure (k + 1) fs) k none in
    All-cons FitsFigure f fs (All-head IsNamed f fs all, ltb-true (unsigned_abs f.value) (10 ^ 37) small.0) (figures-told (k + 1) fs (All-tail IsNamed f fs all) small.1)

-- ---- both reports

-- nothing of it is too large
record IsSmall (c : Contents) : Type 0 where
  samples : is_count c.samples ≡ true
  met : is_count c.met ≡ true
  counts : counts_fit c.horizons ≡ true
  figures : large_figure 0 c.figures ≡ None

small : (b c : Contents) → too_large b c ≡ None → IsSmall c
unfolding too_large
small b c none = record { samples = grind arith; met = grind arith; counts = grind arith; figures = no-line b (large_figure 0 c.figures) (grind arith) }

steps-of : (c : Contents) → IsReport c → All IsStep c.horizons
steps-of c is = All-weaker FitsCount IsStep (λ h fits. fits.0) c.horizons is.horizons

names-of : (c : Contents) → IsReport c → All IsNamed c.figures
names-of c is = All-weaker FitsFigure IsNamed (λ f fits. fits.0) c.figures is.figures

joined-report : (a b : Contents) → IsReport a → IsReport b → too_large b (joined a b) ≡ None → IsReport (joined a b)
unfolding joined
joined-report a b one other none =
    let fits = small b (joined a b) none in
    record {
      samples = ltb-true (a.samples + b.samples) (2 ^ 64) fits.samples;
      met = ltb-true (a.met + b.met) (2 ^ 64) fits.met;
      horizons = counts-told (joined_counts a.horizons b.horizons) (joined-steps a.horizons b.horizons (steps-of a one) (steps-of b other)) fits.counts;
      figures = figures-told 0 (joined_figures a.met b.met a.figures b.figures) (joined-named a.met b.met a.figures b.figures (names-of a one) (names-of b other)) fits.figures;
    }

pub merged_report : MergedIsReport
unfolding merged
merged_report a b c one other is =
    let none : too_large b (joined a b) ≡ None = grind arith in
    let whole : joined a b ≡ c = grind arith in
    subst IsReport whole (joined-report a b one other none)

pub fitting_merged : FittingAreMerged
fitting_merged a b same is =
    merged-fitting a b (shown-same a b same) ∙ accepted b (joined a b) (report-fits b (joined a b) is)
