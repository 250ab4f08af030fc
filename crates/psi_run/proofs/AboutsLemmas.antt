-- Each command about a network is about one.
use Rattle.std.specs.Prelude.{◌≡◌, ℕ, List, [], ◌∷◌, Option, Some, None, IfSome, Ok, refl}
use Rattle.std.proofs.Common.{sym, subst}
use Rattle.psi_io.specs.Sink.{appended}
use Rattle.psi_program.specs.Seen.{ShelfSeen}
use Rattle.psi_program.specs.Reply.{text_reply}
use Rattle.psi_net_model.specs.Network.{Network}
use Rattle.psi_net_model.specs.Valid.{IsNetwork}
use Rattle.psi_command.specs.declared.status.Status.{Status}
use Rattle.psi_command.specs.declared.status.Status.TheVariants.{Done}
use Rattle.psi_command.specs.declared.words.Question.{Question}
use Rattle.psi_command.specs.declared.words.Question.TheVariants.{Sample, Check, Report, Couple, Reward, Exact, Closed, Replay}
use Rattle.psi_command.specs.Command.{net_file, certify, replay, log_file}
use Rattle.psi_command.specs.Request.{asked}
use Rattle.psi_reply.specs.Sample.{IsSampled}
use Rattle.psi_run.specs.Reply.{reply_to, reply_of}
use Rattle.psi_run.specs.Ending.{IsEnding}
use Rattle.psi_run.specs.Files.{IsNetAt}
use Rattle.psi_run.proofs.EndingsLemmas.{IsAbout, first_read, on_net}
use Rattle.psi_reply.specs.Ending.{Ending, EndsWith, HasReplied}
use Rattle.psi_reply.specs.Reply.{Reply}
use Rattle.psi_reply.specs.Check.{AreMarked, IsChecked, check_text}
use Rattle.psi_reply.specs.Report.{IsReportOf}
use Rattle.psi_reply.specs.Couple.{IsCouplingOf}
use Rattle.psi_reply.specs.Reward.{kind_named, IsRewardOf}
use Rattle.psi_reply.specs.Exact.{IsSurveyed}
use Rattle.psi_reply.specs.Closed.{first_other, IsClosedSampled}
use Rattle.psi_reply.specs.Certified.{IsCertified}
use Rattle.psi_reply.specs.Replay.{IsReplayed}
use Rattle.psi_reply.proofs.SamplingLemmas.{sampled_printed}
use Rattle.psi_reply.proofs.CheckingLemmas.{checked_printed}
use Rattle.psi_reply.proofs.ReportingLemmas.{report_printed}
use Rattle.psi_reply.proofs.CouplingLemmas.{coupling_printed, reward_printed}
use Rattle.psi_reply.proofs.SurveyingLemmas.{exact_printed}
use Rattle.psi_reply.proofs.ClosingLemmas.{closed_printed}

-- what the reply to a question says of the network
abbrev pub Answers : (List ℕ → Option (List ℕ)) → Question → Network → (before after : Option (List ℕ)) → Status → Type 0
Answers told (Sample seed stream) net before after result = IsSampled before after result net seed stream
Answers told Check net before after result = IsChecked before after result net
Answers told (Report seed first count) net before after result = IsReportOf before after result net seed first count
Answers told (Couple seed stream) net before after result = IsCouplingOf before after result net seed stream
Answers told (Reward seed stream name) net before after result = IsRewardOf before after result net seed stream (kind_named name.now net.rewards)
Answers told (Exact seed stream h) net before after result = IsSurveyed before after result net seed stream h
Answers told (Closed seed stream total) net before after result = IsClosedSampled before after result net seed stream total
Answers told (Replay log) net before after result = (bytes : List ℕ) → told log.now ≡ Some bytes → IsReplayed before after result net bytes

-- a question is about one network
pub question_about : (told : List ℕ → Option (List ℕ)) (name : List ℕ) (question : Question) → IsAbout told (asked name question) name (Answers told question)
unfolding reply_to
question_about told name (Sample seed stream) = record { reads = first_read (net_file name) []; reply = refl; means = λ before after result has. has }
question_about told name Check = record { reads = first_read (net_file name) []; reply = refl; means = λ before after result has. has }
question_about told name (Report seed first count) = record { reads = first_read (net_file name) []; reply = refl; means = λ before after result has. has }
question_about told name (Couple seed stream) = record { reads = first_read (net_file name) []; reply = refl; means = λ before after result has. has }
question_about told name (Reward seed stream reward) = record { reads = first_read (net_file name) []; reply = refl; means = λ before after result has. has }
question_about told name (Exact seed stream h) = record { reads = first_read (net_file name) []; reply = refl; means = λ before after result has. has }
question_about told name (Closed seed stream total) = record { reads = first_read (net_file name) []; reply = refl; means = λ before after result has. has }
question_about told name (Replay log) = record { reads = first_read (net_file name) (log_file log.now ∷ []); reply = refl; means = λ before after result has. has }

-- the log of a sample is about one network
pub certify_about : (told : List ℕ → Option (List ℕ)) (name : List ℕ) (seed stream : ℕ)
    → IsAbout told (certify name seed stream) name (λ net before after result. IsCertified before after result net seed stream)
unfolding reply_to
certify_about told name seed stream = record { reads = first_read (net_file name) []; reply = refl; means = λ before after result has. has }

-- a replay is about one network
pub replay_about : (told : List ℕ → Option (List ℕ)) (name log : List ℕ)
    → IsAbout told (replay name log) name (λ net before after result. (bytes : List ℕ) → told log ≡ Some bytes → IsReplayed before after result net bytes)
unfolding reply_to
replay_about told name log = record { reads = first_read (net_file name) (log_file log ∷ []); reply = refl; means = λ before after result has. has }

-- the work for a question ended with the reply to it, unless an allocation failed; a description has right marks, and a replay reads a file more
abbrev pub HasAnswered : Question → Network → Ending → Type 0
HasAnswered Check net ending = EndsWith ending (text_reply Done (check_text net)) × (HasReplied ending → AreMarked net)
HasAnswered (Replay log) net ending = ⊥
HasAnswered question net ending = IfSome (reply_of (asked [] question) (λ other. None) net) (EndsWith ending)

module _ (shelf : ShelfSeen) (name : List ℕ) (question : Question) (net : Network) (ending : Ending) where
  on-question : (reply : Reply) → reply_of (asked name question) shelf.told net ≡ Some reply → IsNetAt shelf.told name net → EndsWith ending reply
      → (HasReplied ending → IsNetwork net → (before after : Option (List ℕ)) → after ≡ appended before reply.out → Answers shelf.told question net before after reply.status)
      → IsEnding shelf (Ok (asked name question)) ending
  on-question reply is = on_net (asked name question) name (Answers shelf.told question) shelf net ending reply is (question_about shelf.told name question)

answered-one : (shelf : ShelfSeen) (name : List ℕ) (question : Question) (net : Network) (ending : Ending) → IsNetAt shelf.told name net → HasAnswered question net ending
    → IsEnding shelf (Ok (asked name question)) ending
answered-one shelf name (Sample seed stream) net ending at ends = on-question shelf name (Sample seed stream) net ending _ refl at ends
    (λ has kept before after. sampled_printed before after net seed stream kept)
answered-one shelf name Check net ending at ends = on-question shelf name Check net ending _ refl at ends.0 (λ has kept before after. checked_printed before after net (ends.1 has))
answered-one shelf name (Report seed first count) net ending at ends = on-question shelf name (Report seed first count) net ending _ refl at ends
    (λ has kept before after. report_printed before after net seed first count kept)
answered-one shelf name (Couple seed stream) net ending at ends = on-question shelf name (Couple seed stream) net ending _ refl at ends
    (λ has kept before after. coupling_printed before after net seed stream kept)
answered-one shelf name (Reward seed stream reward) net ending at ends = on-question shelf name (Reward seed stream reward) net ending _ refl at ends
    (λ has kept before after. reward_printed before after net seed stream (kind_named reward.now net.rewards) kept)
answered-one shelf name (Exact seed stream h) net ending at ends = on-question shelf name (Exact seed stream h) net ending _ refl at ends
    (λ has kept before after. exact_printed before after net seed stream h kept)
answered-one shelf name (Closed seed stream total) net ending at ends = on-question shelf name (Closed seed stream total) net ending _ refl at ends
    (λ has kept before after. closed_printed before after net seed stream total (first_other net) refl kept)
answered-one shelf name (Replay log) net ending at ends = absurd ends

-- so it ended as the command for it has to
pub answered : (shelf : ShelfSeen) (name : List ℕ) (question one : Question) (net : Network) (ending : Ending) → question ≡ one → IsNetAt shelf.told name net
    → HasAnswered one net ending → IsEnding shelf (Ok (asked name question)) ending
answered shelf name question one net ending is at ends = subst (λ (q : Question). IsEnding shelf (Ok (asked name q)) ending) (sym is) (answered-one shelf name one net ending at ends)
