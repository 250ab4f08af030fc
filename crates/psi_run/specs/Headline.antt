-- The headline over what was read and what was accepted.
use Rattle.std.specs.Prelude.{◌≡◌, ◌≢◌, ℕ, ◌^◌, ◌<◌, List, [], ◌∷◌, Option, Some, Ok, codes}
use Rattle.std.specs.Fmt.{decimal}
use Rattle.psi_program.specs.Run.{Run, Agrees}
use Rattle.psi_net_model.specs.Network.{Network}
use Rattle.psi_net.specs.Reading.{network_of}
use Rattle.psi_command.specs.declared.status.Status.{Status}
use Rattle.psi_command.specs.Status.{status_code}
use Rattle.psi_reply.specs.Sample.{IsSampled}
use Rattle.psi_run.specs.Run.{IsRunOf}

-- out accepted, from nothing on, a sample of the network for this seed and stream, with the status that the run ended with
pub record PrintsSample (run : Run) (net : Network) (seed stream : ℕ) : Type 0 where
  pub status : Status
  pub code : status_code status ≡ run.status
  pub sampled : IsSampled (Some []) (Some run.out) status net seed stream

-- a run for the words of a sample whose status is not that of a failed read, a failed write or memory that ran out
pub record IsSampleRun (run : Run) (name : List ℕ) (seed stream : ℕ) : Type 0 where
  pub is : IsRunOf run
  pub words : run.words ≡ codes "sample" ∷ name ∷ decimal seed ∷ decimal stream ∷ []
  pub seed_fits : seed < 2 ^ 64
  pub stream_fits : stream < 2 ^ 64
  pub read : run.status ≢ 6
  pub written : run.status ≢ 7
  pub memory : run.status ≢ 8

-- whatever bytes were answered to the read of NET, where they read as a network, what out accepted is a sample of it
abbrev pub SamplesOfGiven : Type 0
SamplesOfGiven = (run : Run) (name : List ℕ) (seed stream : ℕ) (bytes : List ℕ) (net : Network) → IsSampleRun run name seed stream
    → run.given ≡ (record { name = name; most = 1048576; bytes = bytes }) ∷ [] → network_of bytes ≡ Ok net → PrintsSample run net seed stream

-- whatever the files hold of which the answers are prefixes, where NET reads as a network, what out accepted is a sample of it
abbrev pub SamplesOfWhole : Type 0
SamplesOfWhole = (run : Run) (name : List ℕ) (seed stream : ℕ) (told : List ℕ → Option (List ℕ)) (bytes : List ℕ) (net : Network) → IsSampleRun run name seed stream
    → Agrees told run.given → told name ≡ Some bytes → network_of bytes ≡ Ok net → PrintsSample run net seed stream
