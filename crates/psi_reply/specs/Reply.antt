-- What each command replies about a network: a status with a text for out and a text for err.
use Rattle.std.specs.Prelude.{◌≡◌, ℕ, List, [], length, nat_le, if◌then◌else◌, Option, Some, None, Result, Ok, Err}
use Rattle.psi_program.specs.Reply.{Reply as AnyReply, text_reply, line_reply}
use Rattle.psi_command.specs.Status.{IsPrinted, IsReported, IsOfCommand}
use Rattle.psi_command.specs.Command.{Command}
use Rattle.psi_state.specs.declared.Outcome.{Outcome}
use Rattle.psi_state.specs.declared.Outcome.TheVariants.{Met, NotMet}
use Rattle.psi_log_format.specs.Log.{Certificate}
use Rattle.psi_log_format.specs.Text.{log_text}
use Rattle.psi_log_words.specs.Refusal.{Refusal}
use Rattle.psi_log.specs.Reading.{read}
use Rattle.psi_replay.specs.declared.answers.Verdict.{Verdict}
use Rattle.psi_replay.specs.declared.answers.Verdict.TheVariants.{Accepted, Rejected}
use Rattle.psi_replay.specs.Verdict.{verdict_of}
use Rattle.psi_closed_arcs.specs.Walks.{customers}
use Rattle.psi_net_model.specs.Network.{Network, caps_of}
use Rattle.psi_net_document.specs.declared.refusals.NetRefusal.{NetRefusal}
use Rattle.psi_command.specs.declared.status.Status.{Status}
use Rattle.psi_command.specs.declared.status.Status.TheVariants.{Done, NotCoupled, Usage, NetRefused, LogRefused, LogTooLong, UnknownReward, TooManyStates, NotClosed, NoSuchTotal}
use Rattle.psi_reply.specs.Texts.{outcome_text, accepted_text}
use Rattle.psi_reply.specs.Lines.{usage_line, refused_line, unknown_line, log_refused_line, log_rejected_line, too_long_line, too_many_line, not_closed_line, no_total_line}
use Rattle.psi_reply.specs.Sample.{outcome_status}
use Rattle.psi_reply.specs.Reward.{valuation, value_status}
use Rattle.psi_reply.specs.Values.{value_text}
use Rattle.psi_reply.specs.Replay.{judgement}
use Rattle.psi_reply.specs.Exact.{state_count, meeting, meeting_status, exact_text}
use Rattle.psi_reply.specs.Closed.{closed_sampled}
use Rattle.psi_reply.specs.Certify.{certificate}
use Rattle.psi_reward.specs.declared.kinds.RewardKind.{RewardKind}

-- a status with a text for out and a text for err
abbrev pub Reply : Type 0
Reply = AnyReply Status

-- words that aren't a command
abbrev pub usage_reply : ℕ → Reply
usage_reply place = line_reply Usage (usage_line place)

-- a network file that is refused
abbrev pub refused_reply : NetRefusal → Reply
refused_reply refusal = line_reply NetRefused (refused_line refusal)

-- the reply on the reward of a name: its first value, where there is such a reward
abbrev pub value_reply : Network → (seed stream : ℕ) → Option RewardKind → Reply
value_reply net seed stream None = line_reply UnknownReward unknown_line
value_reply net seed stream (Some kind) = text_reply (value_status (valuation net seed stream kind)) (value_text (valuation net seed stream kind))

-- the reply on the composed map, where there are at most 65,536 states
abbrev pub survey_reply : Network → (seed stream h : ℕ) → Reply
survey_reply net seed stream h =
    if nat_le (state_count net) 65536
    then text_reply (meeting_status (meeting net seed stream h)) (exact_text net seed stream h)
    else line_reply TooManyStates too_many_line

-- the reply on an outcome
abbrev pub outcome_reply : Outcome → Reply
outcome_reply outcome = text_reply (outcome_status outcome) (outcome_text outcome)

-- the reply on a closed network whose queues can hold so many customers, and on one whose queues can't
abbrev pub room_reply : Network → (total : ℕ) → Reply → Reply
room_reply net total reply = if nat_le total (customers (caps_of net)) then reply else line_reply NoSuchTotal no_total_line

-- the reply on a network of which each event is a move, and on one of which an event isn't
abbrev pub moves_reply : Option ℕ → Reply → Reply
moves_reply (Some event) reply = line_reply NotClosed (not_closed_line event)
moves_reply None reply = reply

-- the reply on a closed network: its sample, where its queues can hold so many customers
abbrev pub total_reply : Network → (seed stream total : ℕ) → Reply
total_reply net seed stream total = room_reply net total (outcome_reply (closed_sampled net seed stream total))

-- the reply on a network of which an event isn't a move, or each is one
abbrev pub closed_reply : Network → (seed stream total : ℕ) → Option ℕ → Reply
closed_reply net seed stream total other = moves_reply other (total_reply net seed stream total)

-- the reply with a log's text, which may have at most 33,554,432 bytes
abbrev pub log_reply : List ℕ → Reply
log_reply text = if nat_le (length text) 33554432 then text_reply Done text else line_reply LogTooLong too_long_line

-- the reply on the log of an outcome: the log of the run of its horizon, where it is met
abbrev pub certify_reply : Network → (seed stream : ℕ) → Outcome → Reply
certify_reply net seed stream (Met horizon state) = log_reply (log_text (certificate net seed stream horizon state))
certify_reply net seed stream (NotMet limit) = text_reply NotCoupled (outcome_text (NotMet limit))

-- the reply on a verdict: the horizon and the state, or the line that breaks a rule
abbrev pub verdict_reply : Verdict → Reply
verdict_reply (Accepted horizon state) = text_reply Done (accepted_text horizon state)
verdict_reply (Rejected line cause) = line_reply LogRefused (log_rejected_line line cause)

-- the reply on what a log file is read as
abbrev pub judged_log : Network → Result Certificate Refusal → Reply
judged_log net (Ok log) = verdict_reply (verdict_of log (judgement net log))
judged_log net (Err refusal) = line_reply LogRefused (log_refused_line refusal.line refusal.cause)

-- the reply on a log file
abbrev pub replay_reply : Network → List ℕ → Reply
replay_reply net bytes = judged_log net (read bytes)

-- a reply that the command can have, whatever its files hold: a text for out alone, or else a line for err alone
pub record IsReply (command : Command) (reply : Reply) : Type 0 where
  pub status : IsOfCommand reply.status command
  pub printed : IsPrinted reply.status → reply.err ≡ []
  pub reported : IsReported reply.status → reply.out ≡ []
