-- What the command `couple` prints, as the sample of a past: the least horizon of any length, and its state.
use Rattle.std.specs.Prelude.{◌≡◌, ◌*◌, ◌<◌, ◌≤◌}
use Rattle.psi_state.specs.declared.Outcome.{Outcome}
use Rattle.psi_state.specs.declared.Outcome.TheVariants.{Met, NotMet}
use Rattle.psi_couple.specs.declared.answers.Coupled.{Coupled}
use Rattle.psi_couple.specs.declared.answers.Coupled.TheVariants.{At, NotAt}
use Rattle.psi_couple.specs.Coupling.{coupled_within}
use Rattle.psi_net_model.specs.Network.{Network}
use Rattle.psi_law.specs.Counting.{Words}
use Rattle.psi_law.specs.Networks.{network_ending}

-- the least coupling under the words of a past: what the command `couple` prints, of the words of the seed and the stream
abbrev pub network_coupling : Network → Words → Coupled
network_coupling net past = coupled_within (network_ending net past) net.limit

-- a coupling as an outcome
abbrev pub coupled_outcome : Coupled → Outcome
coupled_outcome (At horizon state) = Met horizon state
coupled_outcome (NotAt limit) = NotMet limit

-- a coupling and a sample agree: in the state, and the coupling's horizon is at most that of the sample and more than half of it; or there is neither
abbrev pub AgreesCoupled : Coupled → Outcome → Type 0
AgreesCoupled (At horizon state) (Met doubled met) = (state ≡ met) × (horizon ≤ doubled) × (doubled < 2 * horizon)
AgreesCoupled (NotAt limit) (NotMet unmet) = limit ≡ unmet
AgreesCoupled coupled outcome = ⊥
