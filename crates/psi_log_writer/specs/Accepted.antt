-- The log of a run is one that its checker accepts.
use Rattle.std.specs.Prelude.{◌≡◌, ℕ, ◌≤◌, ◌^◌, List, length, Some, Ok}
use Rattle.psi_state.specs.State.{AreCapacities}
use Rattle.psi_rate.specs.Composition.{Functions, AreClosed}
use Rattle.psi_horizon.specs.Runs.{ending_at}
use Rattle.psi_log_format.specs.declared.header.Header.{Header}
use Rattle.psi_log_format.specs.Log.{Certificate, IsHeader, IsLog}
use Rattle.psi_replay.specs.declared.answers.Verdict.TheVariants.{Accepted}
use Rattle.psi_replay.specs.Verdict.{judged, verdict_of}
use Rattle.psi_log_writer.specs.Recorded.{recorded}

-- it is a log, it breaks no rule of a network with these capacities, this limit, these events and these functions, and it is accepted with its horizon and its state
pub record IsAccepted (caps : List ℕ) (limit : ℕ) (events : ℕ → ℕ) (f : Functions) (c : Certificate) : Type 0 where
  pub log : IsLog c
  pub kept : judged caps limit events f c ≡ Ok tt
  pub verdict : verdict_of c (judged caps limit events f c) ≡ Accepted c.header.horizon c.final

-- what runs are of: capacities, a split number of at most 4,096, functions that stay within the capacities, and at most 1,024 events
pub record AreRunsOf (split : ℕ) (f : Functions) (caps : List ℕ) (events : ℕ → ℕ) : Type 0 where
  pub valid : AreCapacities caps
  pub most : split ≤ 4096
  pub closed : AreClosed caps f
  pub numbered : (t : ℕ) → events t ≤ 1024

-- a header of version 2, for so many queues, and with a horizon within the limit
pub record IsHeaderOf (caps : List ℕ) (limit : ℕ) (h : Header) : Type 0 where
  pub header : IsHeader h
  pub version : h.version ≡ 2
  pub queues : h.queues ≡ length caps
  pub horizon : h.horizon ≤ 2 ^ limit

-- the log of each run that ends with one state is accepted
abbrev pub LogsAreAccepted : Type 0
LogsAreAccepted =
    (split : ℕ) (f : Functions) (caps : List ℕ) (events : ℕ → ℕ) (limit : ℕ) (h : Header) (state : List ℕ) → AreRunsOf split f caps events → IsHeaderOf caps limit h
    → ending_at split f caps h.horizon ≡ Some state → IsAccepted caps limit events f (recorded split f caps events h state)
