-- What a sample is, and what is printed of it.
use Rattle.std.specs.Prelude.{◌≡◌, ℕ, List, Option}
use Rattle.psi_io.specs.Sink.{appended}
use Rattle.psi_state.specs.declared.Outcome.{Outcome}
use Rattle.psi_state.specs.declared.Outcome.TheVariants.{Met, NotMet}
use Rattle.psi_past.specs.SeedWord.{seed_word}
use Rattle.psi_rate.specs.Composition.{function_at}
use Rattle.psi_rate.specs.Outcomes.{outcome_within}
use Rattle.psi_horizon.specs.Runs.{ending_at}
use Rattle.psi_horizon.specs.Sample.{IsSample}
use Rattle.psi_net_model.specs.Network.{Network, caps_of, rates_of, functions_of}
use Rattle.psi_command.specs.declared.status.Status.{Status}
use Rattle.psi_command.specs.declared.status.Status.TheVariants.{Done, NotCoupled}
use Rattle.psi_reply.specs.Texts.{outcome_text}

-- the functions of a network's events by the time before zero, under the words of a seed and a stream
unfoldable pub functions_by_time : Network → ℕ → ℕ → ℕ → List ℕ → List ℕ
functions_by_time net seed stream = function_at (functions_of net) (rates_of net) (seed_word seed stream)

-- the sample that a seed and a stream draw of a network (Propp and Wilson 1996), by regions
unfoldable pub sampled : Network → ℕ → ℕ → Outcome
sampled net seed stream = outcome_within (ending_at net.split (functions_by_time net seed stream) (caps_of net)) net.limit

-- the status of a sample
abbrev pub outcome_status : Outcome → Status
outcome_status (Met horizon state) = Done
outcome_status (NotMet limit) = NotCoupled

-- an outcome is that of coupling from the past of the network's events, under the words of the seed and the stream
abbrev pub IsDrawn : Network → ℕ → ℕ → Outcome → Type 0
IsDrawn net seed stream outcome = IsSample (caps_of net) (functions_of net) (rates_of net) net.limit net.split (seed_word seed stream) outcome

-- what is printed is an outcome of the network's events under the words of the seed and the stream
pub record IsSampled (before after : Option (List ℕ)) (result : Status) (net : Network) (seed stream : ℕ) : Type 0 where
  pub outcome : Outcome
  -- that of coupling from the past
  pub drawn : IsDrawn net seed stream outcome
  -- the status tells whether it is met
  pub status : result ≡ outcome_status outcome
  -- and out grew by its text
  pub text : after ≡ appended before (outcome_text outcome)
