-- How a text goes to a sink by way of a block: its front is taken, and the rest of it waits in the block.
use Rattle.std.specs.Prelude.{◌≡◌, ℕ, ◌-◌, ◌≤◌, List, ◌++◌, length, Option, Result, Ok, Err}
use Rattle.psi_io.specs.Counts.{Rose}
use Rattle.psi_io.specs.Sink.{appended, GrewByPrefix, TookPrefix}
use Rattle.psi_io.specs.declared.sink.SinkFault.{SinkFault}

-- what is known of a sink: what it holds, where it tells it, the bytes that were accepted, its count of faults, and which numbers of bytes it takes without one
pub record SinkState : Type 1 where
  pub held : Option (List ℕ)
  pub took : List ℕ
  pub faults : ℕ
  pub takes : ℕ → Type 0

-- the sink took the front of the text, and what waits is the rest of it; no count rose where it takes the text
pub record IsSent (old new : SinkState) (waiting text : List ℕ) : Type 0 where
  pub front : List ℕ
  pub whole : front ++ waiting ≡ text
  pub grew : new.held ≡ appended old.held front
  pub took : new.took ≡ old.took ++ front
  pub counts : old.faults ≤ new.faults
  pub spared : (n : ℕ) → old.takes n → length text ≤ n → new.faults ≡ old.faults
  pub takes_on : (n : ℕ) → old.takes n → new.takes (n - (length text - length waiting))

-- the sink took a prefix of the text and then failed, and a prefix of it was accepted; so it isn't one that takes the text
pub record IsStopped (old new : SinkState) (text : List ℕ) : Type 0 where
  pub prefix : GrewByPrefix old.held new.held text
  pub took : TookPrefix old.took new.took text
  pub failed : Rose old.faults new.faults
  pub counts : old.faults ≤ new.faults
  pub never : (n : ℕ) → old.takes n → length text ≤ n → ⊥

-- what an answer says of the sink, the text and what waits
abbrev pub Sends : Result (Unit {0}) SinkFault → SinkState → SinkState → List ℕ → List ℕ → Type 0
Sends (Ok done) old new waiting text = IsSent old new waiting text
Sends (Err fault) old new waiting text = IsStopped old new text
