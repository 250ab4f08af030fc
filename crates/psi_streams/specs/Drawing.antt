-- What draws the samples of many streams.
use Rattle.std.specs.Prelude.{ℕ, List, map, Bool, Result, Ok, Err, if◌then◌else◌}
use Rattle.psi_io.specs.declared.sink.SinkFault.{SinkFault}
use Rattle.psi_state.specs.State.{numbers_from}
use Rattle.psi_state.specs.declared.Outcome.{Outcome}
use Rattle.psi_net_model.specs.Network.{Network}
use Rattle.psi_command.specs.declared.status.Status.{Status}
use Rattle.psi_command.specs.declared.status.Status.TheVariants.{Done, NotCoupled, WriteFault}

-- a network and a seed
pub record Open : Type 0 where
  pub net : Network
  pub seed : ℕ

-- a network, a seed, and the number of customers in all
pub record Closed : Type 0 where
  pub net : Network
  pub seed : ℕ
  pub total : ℕ

-- what is drawn of so many streams, from the first on
abbrev pub all_drawn : (ℕ → Outcome) → (first count : ℕ) → List Outcome
all_drawn drawn first count = map drawn (numbers_from first count)

-- the status of a call whose table is written, and all samples are met or not, or a write failed
abbrev pub status_of : Result Bool SinkFault → Status
status_of (Ok met) = if met then Done else NotCoupled
status_of (Err fault) = WriteFault
