-- The reports of two lists of samples of one network are merged into that of both.
use Rattle.std.specs.Prelude.{◌≡◌, ℕ, ◌+◌, List, ◌++◌, length, Ok}
use Rattle.std.proofs.Common.{ap, ◌∙◌}
use Rattle.std.proofs.lemmas.List.{length-append}
use Rattle.psi_state.specs.declared.Outcome.{Outcome}
use Rattle.psi_net_model.specs.Network.{Network}
use Rattle.psi_report.specs.Samples.{met_states, met_horizons}
use Rattle.psi_report.proofs.TotalsLemmas.{met_states-append, met_horizons-append}
use Rattle.psi_report.specs.Contents.{Contents}
use Rattle.psi_report.specs.Report.{contents_of}
use Rattle.psi_report_reader.specs.Merging.{joined, fitting, merged, ReportsAreMerged}
use Rattle.psi_report_reader.specs.Reading.{IsReport}
use Rattle.psi_report_reader.proofs.SmallLemmas.{contents-fit}
use Rattle.psi_report_reader.proofs.MergeLemmas.{accepted, report-fits, merged-fitting}
use Rattle.psi_report_reader.proofs.HorizonCountsLemmas.{horizons_of, horizons-joined}
use Rattle.psi_report_reader.proofs.FiguresJoinedLemmas.{all_figures, figures-joined, difference-none}

-- what is told of so many samples with these states and horizons
abbrev told : Network → ℕ → List (List ℕ) → List ℕ → Contents
told net n states hs = record { samples = n; met = length states; horizons = horizons_of hs; figures = all_figures net states }

told-joined : (net : Network) (m n : ℕ) (xs ys : List (List ℕ)) (gs hs : List ℕ) → joined (told net m xs gs) (told net n ys hs) ≡ told net (m + n) (xs ++ ys) (gs ++ hs)
unfolding joined
told-joined net m n xs ys gs hs =
    let count = length-append xs ys in
    let horizons = horizons-joined gs hs in
    let figures = figures-joined net xs ys in
    cc

contents-joined : (net : Network) (outcomes others : List Outcome) → joined (contents_of net outcomes) (contents_of net others) ≡ contents_of net (outcomes ++ others)
unfolding contents_of
contents-joined net outcomes others =
    rw (length-append outcomes others, met_states-append outcomes others, met_horizons-append outcomes others)
    (told-joined net (length outcomes) (length others) (met_states outcomes) (met_states others) (met_horizons outcomes) (met_horizons others))

-- what can be told of both is merged
pub merged-fit : (net : Network) (outcomes others : List Outcome) → IsReport (contents_of net (outcomes ++ others))
    → merged (contents_of net outcomes) (contents_of net others) ≡ Ok (contents_of net (outcomes ++ others))
unfolding contents_of
merged-fit net outcomes others fit =
    merged-fitting (contents_of net outcomes) (contents_of net others) (difference-none net (met_states outcomes) (met_states others))
    ∙ ap (fitting (contents_of net others)) (contents-joined net outcomes others)
    ∙ accepted (contents_of net others) (contents_of net (outcomes ++ others)) (report-fits (contents_of net others) (contents_of net (outcomes ++ others)) fit)

pub reports_merged : ReportsAreMerged
reports_merged net outcomes others are = merged-fit net outcomes others (contents-fit net (outcomes ++ others) are)
