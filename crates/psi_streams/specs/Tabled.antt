-- A table as it is written.
use Rattle.std.specs.Prelude.{ℕ, ◌≤◌, List, Option}
use Rattle.psi_net_model.specs.Network.{Network}
use Rattle.psi_table.specs.Paths.{AreSumsFor}
use Rattle.psi_streams.specs.declared.walking.Walking.{Walking}
use Rattle.psi_streams.specs.Ways.{IsWayOf}

-- a table of a network's samples under a seed, or with a number of steps of their paths, and the bytes of it that wait
pub record Tabled : Type 0 where
  pub net : Network
  pub seed : ℕ
  pub steps : Option ℕ
  pub waits : List ℕ

-- what walks paths of this network: of so many steps that there is a word for each, with as many sums as the network has, in a way of the network
pub record IsWalkingOf (net : Network) (walking : Walking) : Type 0 where
  pub few : walking.steps ≤ 4290772992
  pub counts : AreSumsFor net walking.walk
  pub way : IsWayOf net walking.way
