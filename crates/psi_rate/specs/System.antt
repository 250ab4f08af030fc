-- What every system keeps.
use Rattle.std.specs.Prelude.{◌≡◌, ℕ, ◌≤◌, List, length, All}
use Rattle.psi_state.specs.State.{AreCapacities}
use Rattle.psi_rate.specs.Rates.{AreRates}
use Rattle.psi_rate.specs.Composition.{SystemParts}

-- the parts fit each other: each event has the network's capacities, and there are as many rates as events
pub record IsSystem {E : Type 0} (capacities : E → List ℕ) (system : SystemParts E) : Type 0 where
  pub valid : AreCapacities system.caps
  pub rated : AreRates system.rates
  pub same_count : length system.rates ≡ length system.events
  pub same_caps : All (λ e. capacities e ≡ system.caps) system.events
  pub most_limit : system.limit ≤ 22
  pub some_split : 1 ≤ system.split
  pub most_split : system.split ≤ 4096
