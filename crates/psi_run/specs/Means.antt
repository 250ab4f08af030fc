-- What it means that a call of a command ends with a reply's status.
use Rattle.std.specs.Prelude.{◌≡◌, ℕ, List, Option, Some, Ok}
use Rattle.psi_net_model.specs.Network.{Network}
use Rattle.psi_net.specs.Reading.{network_of}
use Rattle.psi_command.specs.declared.status.Status.{Status}
use Rattle.psi_command.specs.Command.{Command, sample, check, report, trial, couple, reward, exact, closed, certify, replay}
use Rattle.psi_reply.specs.Sample.{IsSampled}
use Rattle.psi_reply.specs.Check.{IsChecked}
use Rattle.psi_reply.specs.Report.{IsReportOf}
use Rattle.psi_reply.specs.Trial.{IsTrial}
use Rattle.psi_reply.specs.Couple.{IsCouplingOf}
use Rattle.psi_reply.specs.Reward.{kind_named, IsRewardOf}
use Rattle.psi_reply.specs.Exact.{IsSurveyed}
use Rattle.psi_reply.specs.Closed.{IsClosedSampled}
use Rattle.psi_reply.specs.Replay.{IsReplayed}
use Rattle.psi_reply.specs.Certified.{IsCertified}

-- the network in the file of the name has the property, where the shelf's model has the file and it reads as a network
abbrev pub OfNetwork : (List ℕ → Option (List ℕ)) → List ℕ → (Network → Type 0) → Type 0
OfNetwork told name Has = (bytes : List ℕ) (net : Network) → told name ≡ Some bytes → network_of bytes ≡ Ok net → Has net

-- what the status says together with what out holds before and after: a sample is drawn, a description is right, a report is that of
-- samples, a trial is one, a horizon is the least, a value is that of a reward, a survey is that of the composed map, a closed
-- network is sampled, a log is that of a sample and would be accepted, or the verdict on a log is right
abbrev pub Means : Command → (List ℕ → Option (List ℕ)) → Option (List ℕ) → Option (List ℕ) → Status → Type 0
Means (sample name seed stream) told before after result = OfNetwork told name (λ net. IsSampled before after result net seed stream)
Means (check name) told before after result = OfNetwork told name (λ net. IsChecked before after result net)
Means (report name seed first count) told before after result = OfNetwork told name (λ net. IsReportOf before after result net seed first count)
Means (trial number) told before after result = IsTrial before after result number
Means (couple name seed stream) told before after result = OfNetwork told name (λ net. IsCouplingOf before after result net seed stream)
Means (reward file seed stream name) told before after result =
    OfNetwork told file (λ net. IsRewardOf before after result net seed stream (kind_named name net.rewards))
Means (exact file seed stream h) told before after result = OfNetwork told file (λ net. IsSurveyed before after result net seed stream h)
Means (closed file seed stream total) told before after result =
    OfNetwork told file (λ net. IsClosedSampled before after result net seed stream total)
Means (certify file seed stream) told before after result = OfNetwork told file (λ net. IsCertified before after result net seed stream)
Means (replay file log) told before after result =
    OfNetwork told file (λ net. (bytes : List ℕ) → told log ≡ Some bytes → IsReplayed before after result net bytes)
