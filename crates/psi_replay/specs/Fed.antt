-- What a replay whose text comes piece by piece is seen as.
use Rattle.std.specs.Prelude.{ℕ, List}
use Rattle.psi_rate.specs.Composition.{SystemParts}

-- its network, and the text that it took
pub record Fed (E : Type 0) : Type 0 where
  pub system : SystemParts E
  pub taken : List ℕ
