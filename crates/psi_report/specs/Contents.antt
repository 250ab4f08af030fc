-- What a report tells, without its network: numbers of samples, and figures under names.
use Rattle.std.specs.Prelude.{ℕ, List}
use Rattle.psi_report.specs.declared.figure.HorizonCount.{HorizonCount}
use Rattle.psi_report.specs.declared.figure.Figure.{Figure}

-- the numbers of samples and of those that are met, how many have each horizon, and the figures of the queues and the rewards
pub record Contents : Type 0 where
  pub samples : ℕ
  pub met : ℕ
  pub horizons : List HorizonCount
  pub figures : List Figure
