-- What is counted while events are read.
use Rattle.std.specs.Prelude.{◌≡◌, ℕ, ◌≤◌, List, length, map}
use Rattle.psi_rate.specs.Rates.{greatest_total, total}
use Rattle.psi_net_model.specs.Expansion.{values_of, most_index_values}
use Rattle.psi_net_model.specs.declared.entries.NamedEvent.{NamedEvent}

-- the number of events, their index values and their total rate, within their limits
pub record IsCounted (events : List NamedEvent) (count values rates : ℕ) : Type 0 where
  pub number : count ≡ length events
  pub index_values : values ≡ values_of events
  pub total_rate : rates ≡ total (map (λ e. e.rate) events)
  pub few : count ≤ 1024
  pub small : values ≤ most_index_values
  pub light : rates ≤ greatest_total
