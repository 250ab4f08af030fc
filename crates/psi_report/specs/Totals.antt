-- Running totals of samples, and what they stand for.
use Rattle.std.specs.Prelude.{◌≡◌, ℕ, ◌^◌, ◌≤◌, ℤ, List, map, length, All}
use Rattle.psi_state.specs.State.{IsBelow, numbers_from}
use Rattle.psi_state.specs.declared.Outcome.{Outcome}
use Rattle.psi_reward.specs.Ranges.{least, greatest}
use Rattle.psi_net_model.specs.Network.{Network, caps_of}
use Rattle.psi_report.specs.declared.summary.Summary.{Summary}
use Rattle.psi_report.specs.Samples.{met_states, met_horizons, IsHorizon}
use Rattle.psi_report.specs.Quantities.{Quantity, queue_quantities, reward_quantities, sum_of}
use Rattle.psi_report.specs.Report.{times}

-- running totals: the numbers of samples and of those met; for each power of two from 2^0 to 2^22 how many are met there; and what
-- the queues' and the rewards' values come to
pub record Totals : Type 0 where
  pub samples : ℕ
  pub met : ℕ
  pub horizons : List ℕ
  pub queues : List Summary
  pub rewards : List Summary

-- what values come to; zeros where there are none
abbrev pub summary_of : List ℤ → Summary
summary_of zs = record { sum = sum_of zs; least = least zs; greatest = greatest zs }

-- what the values of quantities come to over states
abbrev pub summaries_of : List (List ℕ) → List Quantity → List Summary
summaries_of states quantities = map (λ (q : Quantity). summary_of (map q.value states)) quantities

-- the horizons that a sample may have: 2^0, 2^1, .., 2^22
abbrev pub powers : List ℕ
powers = map (λ k. 2 ^ k) (numbers_from 0 23)

-- the totals of samples of a network
unfoldable pub totals_of : Network → List Outcome → Totals
totals_of net outcomes = record {
  samples = length outcomes;
  met = length (met_states outcomes);
  horizons = map (λ t. times t (met_horizons outcomes)) powers;
  queues = summaries_of (met_states outcomes) (queue_quantities net);
  rewards = summaries_of (met_states outcomes) (reward_quantities net);
}

-- totals stand for samples of a network
pub record StandsFor (running : Totals) (net : Network) (outcomes : List Outcome) : Type 0 where
  -- there are at most 65,536 samples
  pub few : length outcomes ≤ 65536
  -- each that is met has a state within the capacities
  pub within : All (λ state. IsBelow state (caps_of net)) (met_states outcomes)
  -- and a horizon that is a power of two, at most 2^22
  pub powers : All IsHorizon (met_horizons outcomes)
  -- and the counts, sums and extremes are theirs, over the network's queues and rewards
  pub totals : running ≡ totals_of net outcomes
