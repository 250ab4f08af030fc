-- Invariants of the loops of `Bounds::volume_at_most`.
use Rattle.std.specs.Prelude.{◌<◌, ◌≤◌, ◌^◌}
use Rattle.psi_state.proofs.CountingLemmas.{IsCounting}
use Rattle.psi_state.proofs.bounds.Bounds.volume_at_most.Given as goal

abbrev pub invariant-loop-place : goal.invariant-loop-place
invariant-loop-place l =
    record {
      counting : IsCounting l.self.lo l.self.hi l.place l.count;
      under : 1 ≤ l.place → l.count ≤ l.most;
      small : l.count < 2 ^ 32;
    }
