-- Each reply is one that its command can have.
use Rattle.std.proofs.Common.{arith}
use Rattle.std.specs.Prelude.{ℕ, List, Option, Result}
use Rattle.psi_state.specs.declared.Outcome.{Outcome}
use Rattle.psi_net_model.specs.Network.{Network}
use Rattle.psi_command.specs.Command.{Command, reward, exact, closed, certify, replay}
use Rattle.psi_reply.specs.Texts.{outcome_text}
use Rattle.psi_reply.specs.Sample.{outcome_status}
use Rattle.psi_program.specs.Reply.{text_reply, line_reply}
use Rattle.psi_reply.specs.Reply.{IsReply, value_reply, survey_reply, closed_reply, certify_reply, verdict_reply, judged_log, refused_reply}
use Rattle.psi_exact.specs.declared.answers.Meeting.{Meeting}
use Rattle.psi_net_document.specs.declared.refusals.NetRefusal.{NetRefusal}
use Rattle.psi_command.specs.declared.status.Status.TheVariants as status
use Rattle.psi_log_format.specs.Log.{Certificate}
use Rattle.psi_log_words.specs.Refusal.{Refusal}
use Rattle.psi_replay.specs.declared.answers.Verdict.{Verdict}
use Rattle.psi_reward.specs.declared.kinds.RewardKind.{RewardKind}
use Rattle.psi_couple.specs.declared.answers.Coupled.{Coupled}
use Rattle.psi_couple.specs.declared.answers.Valued.{Valued}
use Rattle.psi_reply.specs.Couple.{coupling_status}
use Rattle.psi_reply.specs.Couplings.{coupling_text}
use Rattle.psi_reply.specs.Reward.{value_status}
use Rattle.psi_reply.specs.Values.{value_text}
use Rattle.psi_reply.specs.Exact.{meeting_status}

-- a text for out alone is a reply of a command, and so is a line on a network that is refused
pub outcome_replied : (command : Command) (outcome : Outcome) → IsReply command (text_reply (outcome_status outcome) (outcome_text outcome))
outcome_replied command outcome = grind arith

pub coupling_replied : (command : Command) (c : Coupled) → IsReply command (text_reply (coupling_status c) (coupling_text c))
coupling_replied command c = grind arith

valued_replied : (command : Command) (v : Valued) → IsReply command (text_reply (value_status v) (value_text v))
valued_replied command v = grind arith

-- and a line on a reward that there isn't
pub value_replied : (file : List ℕ) (seed stream : ℕ) (name : List ℕ) (net : Network) (kind : Option RewardKind)
    → IsReply (reward file seed stream name) (value_reply net seed stream kind)
value_replied file seed stream name net kind = grind (arith, valued_replied)

-- what is told of the composed map, or a line on too many states, is a reply of the command that asks for it
meeting_replied : (command : Command) (met : Meeting) (text : List ℕ) → IsReply command (text_reply (meeting_status met) text)
meeting_replied command met text = grind arith

pub survey_replied : (file : List ℕ) (seed stream h : ℕ) (net : Network) → IsReply (exact file seed stream h) (survey_reply net seed stream h)
survey_replied file seed stream h net = grind (arith, meeting_replied)

-- a sample, or a line on an event that is no move or on too many customers, is a reply of the command that asks for a closed network
pub closed_replied : (file : List ℕ) (seed stream total : ℕ) (net : Network) (other : Option ℕ)
    → IsReply (closed file seed stream total) (closed_reply net seed stream total other)
closed_replied file seed stream total net other = grind (arith, outcome_replied)

pub refused_replied : (command : Command) (refusal : NetRefusal) → IsReply command (refused_reply refusal)
refused_replied command refusal = grind arith

-- the log of a sample, or a line on one that is too long, is a reply of the command that asks for it
pub certify_replied : (file : List ℕ) (seed stream : ℕ) (net : Network) (outcome : Outcome) → IsReply (certify file seed stream) (certify_reply net seed stream outcome)
certify_replied file seed stream net outcome = grind arith

-- a verdict, or a line on a text that is no log, is a reply of a replay
pub verdict_replied : (file log : List ℕ) (verdict : Verdict) → IsReply (replay file log) (verdict_reply verdict)
verdict_replied file log verdict = grind arith

pub line_replied : (file log line : List ℕ) → IsReply (replay file log) (line_reply status.LogRefused line)
line_replied file log line = grind arith

pub judged_replied : (file log : List ℕ) (net : Network) (judged : Result Certificate Refusal) → IsReply (replay file log) (judged_log net judged)
judged_replied file log net judged = grind (arith, verdict_replied)
