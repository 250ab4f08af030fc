-- The report of samples of a network: what it tells, and its text.
use Rattle.std.specs.Prelude.{ℕ, ℤ, List, [], ◌∷◌, ◌++◌, map, length, ◌==◌, count_by}
use Rattle.std.specs.List.{flat_map}
use Rattle.psi_reward.specs.Ranges.{least, greatest}
use Rattle.psi_state.specs.declared.Outcome.{Outcome}
use Rattle.psi_net_model.specs.Network.{Network}
use Rattle.psi_report.specs.Samples.{met_states, met_horizons}
use Rattle.psi_report.specs.Distinct.{distinct}
use Rattle.psi_report.specs.Quantities.{Quantity, queue_quantities, reward_quantities, sum_of}
use Rattle.psi_report.specs.declared.figure.Item.{Item}
use Rattle.psi_report.specs.declared.figure.Item.TheVariants.{Sum, Least, Greatest, RewardSum, RewardLeast, RewardGreatest}
use Rattle.psi_report.specs.declared.figure.HorizonCount.{HorizonCount}
use Rattle.psi_report.specs.declared.figure.Figure.{Figure}
use Rattle.psi_report.specs.Contents.{Contents}
use Rattle.psi_report.specs.Text.{text_of}

-- how often a number stands in a list
abbrev pub times : ℕ → List ℕ → ℕ
times n ns = count_by (λ m. m == n) ns

-- a horizon, and how often it stands in a list
abbrev pub horizon_count : List ℕ → ℕ → HorizonCount
horizon_count horizons horizon = record { horizon = horizon; count = times horizon horizons }

-- what the figures of a quantity are
pub record Trio : Type 0 where
  pub sum : Item
  pub least : Item
  pub greatest : Item

-- of a queue
abbrev pub queue_trio : Trio
queue_trio = record { sum = Sum; least = Least; greatest = Greatest }

-- of a reward
abbrev pub reward_trio : Trio
reward_trio = record { sum = RewardSum; least = RewardLeast; greatest = RewardGreatest }

-- a figure
abbrev pub figure : Item → List ℕ → ℤ → Figure
figure item name value = record { item = item; name = name; value = value }

-- figures of these items
module _ (trio : Trio) where
  -- the least and the greatest of values, where there are any
  abbrev pub extremes : List ℕ → List ℤ → List Figure
  extremes name [] = []
  extremes name (z ∷ zs) = figure trio.least name (least (z ∷ zs)) ∷ figure trio.greatest name (greatest (z ∷ zs)) ∷ []

  -- the sum of values, and where there are any, the least and the greatest of them
  abbrev pub figures_of : List ℕ → List ℤ → List Figure
  figures_of name zs = figure trio.sum name (sum_of zs) ∷ extremes name zs

  -- the figures of a quantity over states
  abbrev pub quantity_figures : List (List ℕ) → Quantity → List Figure
  quantity_figures states quantity = figures_of quantity.name (map quantity.value states)

-- what the report of samples of a network tells: how many there are and how many of them are met; each horizon that some have, ascending, with how many have
-- it; and over the states of those that are met the figures of the queues and of the rewards
unfoldable pub contents_of : Network → List Outcome → Contents
contents_of net outcomes = record {
  samples = length outcomes;
  met = length (met_states outcomes);
  horizons = map (horizon_count (met_horizons outcomes)) (distinct (met_horizons outcomes));
  figures = flat_map (quantity_figures queue_trio (met_states outcomes)) (queue_quantities net)
      ++ flat_map (quantity_figures reward_trio (met_states outcomes)) (reward_quantities net);
}

-- the report of samples of a network
abbrev pub report_text : Network → List Outcome → List ℕ
report_text net outcomes = text_of (contents_of net outcomes)
