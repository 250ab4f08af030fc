-- Trials: four samples of a network that is made from a number.
use Rattle.std.specs.Prelude.{◌≡◌, ℕ, List, ◌++◌, length, codes, Option}
use Rattle.psi_io.specs.Sink.{appended}
use Rattle.psi_state.specs.declared.Outcome.{Outcome}
use Rattle.psi_rate.specs.Rates.{total, least_power}
use Rattle.psi_net_model.specs.Network.{Network, rates_of}
use Rattle.psi_net_model.specs.Generated.{generated_network}
use Rattle.psi_report.specs.Report.{report_text}
use Rattle.psi_command.specs.declared.status.Status.{Status}
use Rattle.psi_command.specs.declared.status.Status.TheVariants.{Done}
use Rattle.psi_reply.specs.Texts.{number_line}
use Rattle.psi_reply.specs.Report.{AreDrawn}

-- what a trial prints: its number, the numbers of queues and of events, the modulus of the wheel, and the report of the samples
unfoldable pub trial_text : ℕ → Network → List Outcome → List ℕ
trial_text number net outcomes =
    number_line (codes "trial ") number
    ++ number_line (codes "queues ") (length net.queues)
    ++ number_line (codes "events ") (length net.events)
    ++ number_line (codes "modulus ") (least_power (total (rates_of net)))
    ++ report_text net outcomes

-- what is printed is the trial of a number
pub record IsTrial (before after : Option (List ℕ)) (result : Status) (number : ℕ) : Type 0 where
  pub outcomes : List Outcome
  -- there are four samples
  pub four : length outcomes ≡ 4
  -- each is that of coupling from the past of the network made from the number, with the number as the seed, of the streams 0 to 3
  pub drawn : AreDrawn (generated_network number) number 0 outcomes
  -- the call is done
  pub status : result ≡ Done
  -- and out grew by the trial's text
  pub text : after ≡ appended before (trial_text number (generated_network number) outcomes)
