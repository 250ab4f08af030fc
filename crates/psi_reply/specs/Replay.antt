-- The verdict of a network on a log, and what is printed of it.
use Rattle.std.specs.Prelude.{◌≡◌, ℕ, ◌-◌, List, Option, Result, Ok, IsErr, ◌⊎◌}
use Rattle.psi_io.specs.Sink.{appended}
use Rattle.psi_state.specs.State.{IsBelow}
use Rattle.psi_past.specs.SeedWord.{seed_word}
use Rattle.psi_rate.specs.Rates.{event_of}
use Rattle.psi_rate.specs.Composition.{IsReached}
use Rattle.psi_log_format.specs.Log.{Certificate}
use Rattle.psi_log_format.specs.Text.{IsLogOf}
use Rattle.psi_log_words.specs.Refusal.{Refusal}
use Rattle.psi_log.specs.Reading.{read}
use Rattle.psi_replay.specs.Verdict.{judged}
use Rattle.psi_net_model.specs.Network.{Network, caps_of, rates_of}
use Rattle.psi_command.specs.declared.status.Status.{Status}
use Rattle.psi_command.specs.declared.status.Status.TheVariants.{Done, LogRefused}
use Rattle.psi_reply.specs.Sample.{functions_by_time}
use Rattle.psi_reply.specs.Texts.{accepted_text}

-- the numbers of a network's events by the time before zero, under the words of a seed and a stream
unfoldable pub events_by_time : Network → (seed stream : ℕ) → ℕ → ℕ
events_by_time net seed stream t = event_of (rates_of net) (seed_word seed stream (t - 1))

-- the rules of a log, for the network's events under the words of the header's seed and stream: all are kept, or one is broken
unfoldable pub judgement : Network → Certificate → Result (Unit {0}) Refusal
judgement net log =
    judged (caps_of net) net.limit (events_by_time net log.header.seed log.header.stream) (functions_by_time net log.header.seed log.header.stream) log

-- a log that is accepted: every state that starts at its horizon or earlier is its state at time zero, under the words of its seed and
-- stream, whoever wrote it
pub record Certifies (net : Network) (log : Certificate) : Type 0 where
  pub kept : judgement net log ≡ Ok tt
  pub reached : IsReached (functions_by_time net log.header.seed log.header.stream) (caps_of net) log.header.horizon log.final
  pub within : IsBelow log.final (caps_of net)

-- the bytes are the text of a log that is accepted, and out grew by its horizon and state
pub record IsAccepted (before after : Option (List ℕ)) (result : Status) (net : Network) (bytes : List ℕ) : Type 0 where
  pub log : Certificate
  pub is : IsLogOf bytes log
  pub certifies : Certifies net log
  pub status : result ≡ Done
  pub text : after ≡ appended before (accepted_text log.header.horizon log.final)

-- the bytes are the text of a log that breaks a rule
pub record IsRejected (net : Network) (bytes : List ℕ) : Type 0 where
  pub log : Certificate
  pub is : IsLogOf bytes log
  pub broken : IsErr (judgement net log)

-- the bytes are refused as a log, or those of a log that breaks a rule, and out is unchanged
pub record IsTurnedDown (before after : Option (List ℕ)) (result : Status) (net : Network) (bytes : List ℕ) : Type 0 where
  pub cause : IsErr (read bytes) ⊎ IsRejected net bytes
  pub status : result ≡ LogRefused
  pub text : after ≡ before

-- what is told of a log file is the network's verdict
abbrev pub IsReplayed : Option (List ℕ) → Option (List ℕ) → Status → Network → List ℕ → Type 0
IsReplayed before after result net bytes = IsAccepted before after result net bytes ⊎ IsTurnedDown before after result net bytes
