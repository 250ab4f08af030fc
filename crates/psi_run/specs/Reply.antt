-- What the program answers to its words, over the files that the shelf's model has.
use Rattle.std.specs.Prelude.{◌≡◌, ℕ, List, [], ◌∷◌, Option, Some, None, option_map, option_and_then, Result, Ok, Err}
use Rattle.psi_net_model.specs.Network.{Network}
use Rattle.psi_net_model.specs.Generated.{generated_network}
use Rattle.psi_net.specs.Reading.{network_of}
use Rattle.psi_net_document.specs.declared.refusals.NetRefusal.{NetRefusal}
use Rattle.psi_command.specs.declared.status.Status.TheVariants.{Done}
use Rattle.psi_report.specs.Report.{report_text}
use Rattle.psi_command.specs.Command.{Command, sample, check, report, trial, couple, reward, exact, closed, certify, replay, File, file_name, files_of}
use Rattle.psi_reply.specs.Sample.{sampled}
use Rattle.psi_reply.specs.Check.{check_text}
use Rattle.psi_reply.specs.Report.{samples_of}
use Rattle.psi_reply.specs.Trial.{trial_text}
use Rattle.psi_reply.specs.Couple.{coupling, coupling_status}
use Rattle.psi_reply.specs.Couplings.{coupling_text}
use Rattle.psi_reply.specs.Reward.{kind_named}
use Rattle.psi_reply.specs.Closed.{first_other}
use Rattle.psi_program.specs.Reply.{text_reply}
use Rattle.psi_reply.specs.Reply.{Reply, usage_reply, refused_reply, value_reply, survey_reply, outcome_reply, closed_reply, certify_reply, replay_reply, IsReply}

-- the reply to a command, for its network, where the shelf's model has what else it reads
abbrev pub reply_of : Command → (List ℕ → Option (List ℕ)) → Network → Option Reply
reply_of (sample name seed stream) told net = Some (outcome_reply (sampled net seed stream))
reply_of (check name) told net = Some (text_reply Done (check_text net))
reply_of (report name seed first count) told net = Some (text_reply Done (report_text net (samples_of net seed first count)))
reply_of (couple file seed stream) told net = Some (text_reply (coupling_status (coupling net seed stream)) (coupling_text (coupling net seed stream)))
reply_of (reward file seed stream name) told net = Some (value_reply net seed stream (kind_named name net.rewards))
reply_of (exact file seed stream h) told net = Some (survey_reply net seed stream h)
reply_of (closed file seed stream total) told net = Some (closed_reply net seed stream total (first_other net))
reply_of (trial number) told net = Some (text_reply Done (trial_text number net (samples_of net number 0 4)))
reply_of (certify file seed stream) told net = Some (certify_reply net seed stream (sampled net seed stream))
reply_of (replay file log) told net = option_map (replay_reply net) (told log)

-- the reply once the network file is judged
abbrev pub judged_reply : (Network → Option Reply) → Result Network NetRefusal → Option Reply
judged_reply reply (Ok net) = reply net
judged_reply reply (Err refusal) = Some (refused_reply refusal)

-- the bytes of the first of the files, where there is one and the shelf's model has it
abbrev pub first_told : (List ℕ → Option (List ℕ)) → List File → Option (List ℕ)
first_told told [] = None
first_told told (file ∷ files) = told (file_name file)

-- the reply to a command: the network of a trial is made from its number; that of any other is in the first file that it reads, where
-- the shelf's model has it
abbrev pub reply_for : Command → (List ℕ → Option (List ℕ)) → Option Reply
reply_for (trial number) told = reply_of (trial number) told (generated_network number)
reply_for command told = option_and_then (λ bytes. judged_reply (reply_of command told) (network_of bytes)) (first_told told (files_of command))

-- the reply to words, where the shelf's model has the files that it needs
unfoldable pub reply_to : Result Command ℕ → (List ℕ → Option (List ℕ)) → Option Reply
reply_to (Err place) told = Some (usage_reply place)
reply_to (Ok command) told = reply_for command told

-- a reply that the words can have, whatever files hold
abbrev pub IsReplyTo : Result Command ℕ → Reply → Type 0
IsReplyTo (Ok command) reply = IsReply command reply
IsReplyTo (Err place) reply = reply ≡ usage_reply place
