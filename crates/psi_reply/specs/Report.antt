-- Reports over the samples of several streams.
use Rattle.std.specs.Prelude.{◌≡◌, ℕ, suc, List, [], ◌∷◌, map, length, Option}
use Rattle.psi_io.specs.Sink.{appended}
use Rattle.psi_state.specs.State.{numbers_from}
use Rattle.psi_state.specs.declared.Outcome.{Outcome}
use Rattle.psi_net_model.specs.Network.{Network}
use Rattle.psi_report.specs.Report.{report_text}
use Rattle.psi_command.specs.declared.status.Status.{Status}
use Rattle.psi_command.specs.declared.status.Status.TheVariants.{Done}
use Rattle.psi_reply.specs.Sample.{sampled, IsDrawn}

-- the samples that a seed and so many streams, from the first on, draw of a network
abbrev pub samples_of : Network → (seed first count : ℕ) → List Outcome
samples_of net seed first count = map (λ stream. sampled net seed stream) (numbers_from first count)

-- the outcomes are those of coupling from the past of the network's events, one for each stream from the first on
abbrev pub AreDrawn : Network → (seed first : ℕ) → List Outcome → Type 0
AreDrawn net seed first [] = Unit {0}
AreDrawn net seed first (outcome ∷ outcomes) = IsDrawn net seed first outcome × AreDrawn net seed (suc first) outcomes

-- what is printed is the report of samples of the network
pub record IsReportOf (before after : Option (List ℕ)) (result : Status) (net : Network) (seed first count : ℕ) : Type 0 where
  pub outcomes : List Outcome
  -- they are so many
  pub number : length outcomes ≡ count
  -- each is that of coupling from the past, under the words of the seed and its stream
  pub drawn : AreDrawn net seed first outcomes
  -- the call is done
  pub status : result ≡ Done
  -- and out grew by their report
  pub text : after ≡ appended before (report_text net outcomes)
