-- The least coupling of a network, and what is printed of it.
use Rattle.std.specs.Prelude.{◌≡◌, ℕ, List, Option}
use Rattle.psi_io.specs.Sink.{appended}
use Rattle.psi_horizon.specs.Runs.{ending_at}
use Rattle.psi_couple.specs.declared.answers.Coupled.{Coupled}
use Rattle.psi_couple.specs.declared.answers.Coupled.TheVariants.{At, NotAt}
use Rattle.psi_couple.specs.Coupling.{coupled_within, IsCoupled, ReachesCoupled, DecidesCoupled, CouplesWithin}
use Rattle.psi_net_model.specs.Network.{Network, caps_of}
use Rattle.psi_command.specs.declared.status.Status.{Status}
use Rattle.psi_command.specs.declared.status.Status.TheVariants.{Done, NotCoupled}
use Rattle.psi_reply.specs.Sample.{functions_by_time}
use Rattle.psi_reply.specs.Couplings.{coupling_text}

-- the state with which the region run of each horizon ends, if it ends with one, under the words of a seed and a stream
unfoldable pub endings : Network → (seed stream : ℕ) → ℕ → Option (List ℕ)
endings net seed stream = ending_at net.split (functions_by_time net seed stream) (caps_of net)

-- the least coupling of a network under the words of a seed and a stream (Propp and Wilson 1996), by regions
unfoldable pub coupling : Network → (seed stream : ℕ) → Coupled
coupling net seed stream = coupled_within (endings net seed stream) net.limit

-- the status of a coupling
abbrev pub coupling_status : Coupled → Status
coupling_status (At horizon state) = Done
coupling_status (NotAt limit) = NotCoupled

-- what is printed is the least coupling of the network's events under the words of the seed and the stream
pub record IsCouplingOf (before after : Option (List ℕ)) (result : Status) (net : Network) (seed stream : ℕ) : Type 0 where
  pub coupled : Coupled
  -- the least horizon from 1 to 2^limit whose region run ends with one state, with that state, or none where there is none
  pub least : IsCoupled (endings net seed stream) net.limit coupled
  -- every state that starts there or earlier is in that state at time zero
  pub reached : ReachesCoupled (functions_by_time net seed stream) (caps_of net) coupled
  -- each longer run ends with that state alone; where there is none, no run of a horizon up to 2^limit ends with one state
  pub later : DecidesCoupled net.split (functions_by_time net seed stream) (caps_of net) net.limit coupled
  -- the state is within the capacities
  pub within : CouplesWithin (caps_of net) coupled
  -- the status tells whether there is one
  pub status : result ≡ coupling_status coupled
  -- and out grew by its text
  pub text : after ≡ appended before (coupling_text coupled)
