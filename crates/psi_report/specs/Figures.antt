-- What a report tells, as running totals give it.
use Rattle.std.specs.Prelude.{ℕ, ◌+◌, ◌^◌, List, [], ◌∷◌, ◌++◌, map, nat_lt, if◌then◌else◌}
use Rattle.psi_net_model.specs.Network.{Network}
use Rattle.psi_report.specs.declared.figure.HorizonCount.{HorizonCount}
use Rattle.psi_report.specs.declared.figure.Figure.{Figure}
use Rattle.psi_report.specs.declared.summary.Summary.{Summary}
use Rattle.psi_report.specs.Contents.{Contents}
use Rattle.psi_report.specs.Report.{Trio, figure, queue_trio, reward_trio}
use Rattle.psi_report.specs.Totals.{Totals}

-- the horizon 2^k with how many samples have it, where any has it
unfoldable pub count_of : (k n : ℕ) → List HorizonCount
count_of k n = if nat_lt 0 n then record { horizon = 2 ^ k; count = n } ∷ [] else []

-- the horizons 2^k, 2^(k + 1), .., of which these are the numbers
unfoldable pub counts_of : ℕ → List ℕ → List HorizonCount
counts_of k [] = []
counts_of k (n ∷ ns) = count_of k n ++ counts_of (k + 1) ns

-- figures of these items, where so many samples are met
module _ (trio : Trio) (met : ℕ) where
  -- the least and the greatest of values, where any sample is met
  unfoldable pub range_figures : List ℕ → Summary → List Figure
  range_figures name summary =
      if nat_lt 0 met then figure trio.least name summary.least ∷ figure trio.greatest name summary.greatest ∷ [] else []

  -- the figures of what values come to
  unfoldable pub summary_figures : List ℕ → Summary → List Figure
  summary_figures name summary = figure trio.sum name summary.sum ∷ range_figures name summary

  -- and those of one quantity after another
  unfoldable pub summaries_figures : List (List ℕ) → List Summary → List Figure
  summaries_figures [] summaries = []
  summaries_figures (name ∷ names) [] = []
  summaries_figures (name ∷ names) (summary ∷ summaries) = summary_figures name summary ++ summaries_figures names summaries

-- what the report tells
unfoldable pub totals_contents : Network → Totals → Contents
totals_contents net totals = record {
  samples = totals.samples;
  met = totals.met;
  horizons = counts_of 0 totals.horizons;
  figures = summaries_figures queue_trio totals.met (map (λ q. q.name) net.queues) totals.queues
      ++ summaries_figures reward_trio totals.met (map (λ r. r.name) net.rewards) totals.rewards;
}
