-- A system that a sample runs, as that of a network.
use Rattle.std.specs.Prelude.{◌≡◌, ℕ, List, map}
use Rattle.psi_rate.specs.Composition.{SystemParts}
use Rattle.psi_net_model.specs.Network.{Network, caps_of, rates_of}
use Rattle.psi_net_model.specs.Made.{EachDoes}

-- the parts of the system are those of the network
pub record IsSystemOf {E : Type 0} (function : E → List ℕ → List ℕ) (net : Network) (system : SystemParts E) : Type 0 where
  pub caps : system.caps ≡ caps_of net
  pub functions : EachDoes (caps_of net) (map function system.events) net.events
  pub rates : system.rates ≡ rates_of net
  pub limit : system.limit ≡ net.limit
  pub split : system.split ≡ net.split
