-- Totals that stand for samples give what the report of these tells.
use Rattle.std.proofs.Common.{◌≡◌, ℕ, suc, ◌+◌, List, [], ◌∷◌, ◌++◌, length, map, ap, refl, arith}
use Rattle.std.specs.List.{flat_map}
use Rattle.std.proofs.lemmas.Bool.{lt-ltb}
use Rattle.psi_state.specs.declared.Outcome.{Outcome}
use Rattle.psi_reward.specs.Worth.{worth_of}
use Rattle.psi_net_model.specs.Network.{Network, NamedReward}
use Rattle.psi_net_model.specs.declared.entries.Queue.{Queue}
use Rattle.psi_report.specs.declared.summary.Summary.{Summary}
use Rattle.psi_report.specs.Samples.{met_states, met_horizons}
use Rattle.psi_report.specs.Quantities.{Quantity, queues_from, queue_quantities, reward_quantities}
use Rattle.psi_report.specs.declared.figure.HorizonCount.{HorizonCount}
use Rattle.psi_report.specs.declared.figure.Figure.{Figure}
use Rattle.psi_report.specs.Report.{Trio, quantity_figures, queue_trio, reward_trio, contents_of}
use Rattle.psi_report.specs.Totals.{Totals, totals_of, summary_of, summaries_of, StandsFor}
use Rattle.psi_report.specs.Figures.{counts_of, range_figures, summary_figures, summaries_figures, totals_contents}
use Rattle.psi_report.proofs.HorizonLemmas.{counts_of-horizons}

-- what values come to gives the figures of the values
summary_figures-values : (trio : Trio) (states : List (List ℕ)) (quantity : Quantity)
    → summary_figures trio (length states) quantity.name (summary_of (map quantity.value states)) ≡ quantity_figures trio states quantity
unfolding summary_figures range_figures
summary_figures-values trio [] quantity = refl
summary_figures-values trio (state ∷ states) quantity = rw (lt-ltb 0 (suc (length states)) (omega arith)) refl

summaries_figures-quantities : (trio : Trio) (states : List (List ℕ)) (quantities : List Quantity)
    → summaries_figures trio (length states) (map (λ (q : Quantity). q.name) quantities) (summaries_of states quantities) ≡ flat_map (quantity_figures trio states) quantities
unfolding summaries_figures
summaries_figures-quantities trio states [] = refl
summaries_figures-quantities trio states (quantity ∷ quantities) =
    rw (summary_figures-values trio states quantity, summaries_figures-quantities trio states quantities) refl

-- the names of the quantities are those of the queues and of the rewards
pub names-queues : (i : ℕ) (queues : List Queue) → map (λ (q : Quantity). q.name) (queues_from i queues) ≡ map (λ (q : Queue). q.name) queues
unfolding queues_from
names-queues i [] = refl
names-queues i (queue ∷ queues) = ap (λ (names : List (List ℕ)). queue.name ∷ names) (names-queues (i + 1) queues)

pub names-rewards : (rewards : List NamedReward)
    → map (λ (q : Quantity). q.name) (map (λ (r : NamedReward). record { name = r.name; value = worth_of r.kind }) rewards) ≡ map (λ (r : NamedReward). r.name) rewards
names-rewards [] = refl
names-rewards (reward ∷ rewards) = ap (λ (names : List (List ℕ)). reward.name ∷ names) (names-rewards rewards)

totals-contents : (net : Network) (outcomes : List Outcome) (totals : Totals) → StandsFor totals net outcomes
    → totals_contents net (totals_of net outcomes) ≡ contents_of net outcomes
unfolding totals_contents totals_of contents_of
totals-contents net outcomes totals stands =
    rw (
      counts_of-horizons (met_horizons outcomes) stands.powers,
      ← names-queues 0 net.queues,
      summaries_figures-quantities queue_trio (met_states outcomes) (queue_quantities net),
      ← names-rewards net.rewards,
      summaries_figures-quantities reward_trio (met_states outcomes) (reward_quantities net),
    ) refl

totals-stand : (net : Network) (totals : Totals) (outcomes : List Outcome) (n m : ℕ) (hs : List ℕ) (qs queues rs rewards : List Summary)
    → qs ≡ queues → rs ≡ rewards → record { samples = n; met = m; horizons = hs; queues = queues; rewards = rewards } ≡ totals → StandsFor totals net outcomes
    → totals_contents net (record { samples = n; met = m; horizons = hs; queues = qs; rewards = rs }) ≡ contents_of net outcomes
totals-stand net totals outcomes n m hs qs queues rs rewards same_queues same_rewards is stands =
    rw (same_queues, same_rewards, is, stands.totals) (totals-contents net outcomes totals stands)

-- what is told of totals is what the report tells of the samples that they stand for
pub contents_stand : (net : Network) (totals : Totals) (outcomes : List Outcome) (n m : ℕ) (hs : List ℕ) (qs queues rs rewards : List Summary) (horizons : List HorizonCount) (figures : List Figure)
    → qs ≡ queues → rs ≡ rewards → record { samples = n; met = m; horizons = hs; queues = queues; rewards = rewards } ≡ totals → StandsFor totals net outcomes
    → horizons ≡ counts_of 0 hs
    → figures ≡ summaries_figures queue_trio m (map (λ (q : Queue). q.name) net.queues) qs ++ summaries_figures reward_trio m (map (λ (r : NamedReward). r.name) net.rewards) rs
    → record { samples = n; met = m; horizons = horizons; figures = figures } ≡ contents_of net outcomes
unfolding totals_contents
contents_stand net totals outcomes n m hs qs queues rs rewards horizons figures same_queues same_rewards is stands counts are =
    let told = totals-stand net totals outcomes n m hs qs queues rs rewards same_queues same_rewards is stands in
    rw (counts, are) told
