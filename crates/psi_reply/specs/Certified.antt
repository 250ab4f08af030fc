-- What is written of the log of a sample.
use Rattle.std.specs.Prelude.{◌≡◌, ℕ, ◌<◌, List, length, Option, ◌⊎◌}
use Rattle.psi_io.specs.Sink.{appended}
use Rattle.psi_state.specs.declared.Outcome.{Outcome}
use Rattle.psi_state.specs.declared.Outcome.TheVariants.{Met, NotMet}
use Rattle.psi_log_format.specs.Text.{log_text, IsLogOf}
use Rattle.psi_net_model.specs.Network.{Network}
use Rattle.psi_command.specs.declared.status.Status.{Status}
use Rattle.psi_command.specs.declared.status.Status.TheVariants.{Done, NotCoupled, LogTooLong}
use Rattle.psi_reply.specs.Texts.{outcome_text, accepted_text}
use Rattle.psi_reply.specs.Sample.{IsDrawn}
use Rattle.psi_reply.specs.Certify.{certificate}
use Rattle.psi_program.specs.Reply.{text_reply}
use Rattle.psi_reply.specs.Reply.{replay_reply}

-- what out held before and holds after, and the status
module _ (before after : Option (List ℕ)) (result : Status) where
  -- out grew by the log of the run of a horizon and a state, and a replay accepts what was written
  pub record IsLogged (net : Network) (seed stream horizon : ℕ) (state : List ℕ) : Type 0 where
    pub text : List ℕ
    pub grew : after ≡ appended before text
    -- it is the text of the run's log, which is one
    pub is : IsLogOf text (certificate net seed stream horizon state)
    -- and a replay of it tells the horizon and the state
    pub replayed : replay_reply net text ≡ text_reply Done (accepted_text horizon state)
    pub status : result ≡ Done

  -- the log of the run of a horizon and a state would be too long, and out is unchanged
  pub record IsTooLong (net : Network) (seed stream horizon : ℕ) (state : List ℕ) : Type 0 where
    pub text : after ≡ before
    pub longer : 33554432 < length (log_text (certificate net seed stream horizon state))
    pub status : result ≡ LogTooLong

  -- an outcome that isn't met is told so
  pub record IsTold (outcome : Outcome) : Type 0 where
    pub text : after ≡ appended before (outcome_text outcome)
    pub status : result ≡ NotCoupled

  -- the log of an outcome is written or too long, or the outcome isn't met
  abbrev pub IsWrittenOf : Network → (seed stream : ℕ) → Outcome → Type 0
  IsWrittenOf net seed stream (Met horizon state) =
      IsLogged net seed stream horizon state ⊎ IsTooLong net seed stream horizon state
  IsWrittenOf net seed stream (NotMet limit) = IsTold (NotMet limit)

  -- what is written is the log of an outcome of the network's events under the words of the seed and the stream
  pub record IsCertified (net : Network) (seed stream : ℕ) : Type 0 where
    pub outcome : Outcome
    -- that of coupling from the past
    pub drawn : IsDrawn net seed stream outcome
    -- and its log
    pub written : IsWrittenOf net seed stream outcome
