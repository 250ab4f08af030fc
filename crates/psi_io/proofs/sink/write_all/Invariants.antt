-- Invariants of the loops of `write_all`.
use Rattle.std.proofs.Common.{◌≡◌, ℕ, ◌≤◌, ◌-◌, ◌++◌, length, take}
use Rattle.psi_io.specs.Sink.{appended}
use Rattle.psi_io.proofs.sink.write_all.Given as goal

abbrev pub invariant-loop-at : goal.invariant-loop-at
invariant-loop-at g l = record {
  within : l.at ≤ length l.piece;
  grown : g.K.Sink.held l.sink ≡ appended (g.K.Sink.held l.initial.sink) (take l.at l.piece);
  took : g.K.Sink.took l.sink ≡ g.K.Sink.took l.initial.sink ++ take l.at l.piece;
  counts : g.K.Sink.faults l.initial.sink ≤ g.K.Sink.faults l.sink;
  spared : (n : ℕ) → g.K.Sink.takes l.initial.sink n → length l.piece ≤ n → g.K.Sink.faults l.sink ≡ g.K.Sink.faults l.initial.sink;
  takes_on : (n : ℕ) → g.K.Sink.takes l.initial.sink n → g.K.Sink.takes l.sink (n - l.at);
}

abbrev pub decreases-loop-at : goal.decreases-loop-at
decreases-loop-at g l = length l.piece - l.at
