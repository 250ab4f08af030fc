-- Invariants of the loops of `count_states`.
use Rattle.std.proofs.Common.{◌≡◌, ◌≤◌, length}
use Rattle.psi_state.specs.Sets.{ascending}
use Rattle.psi_pool.specs.Inner.NodesKept.{states}
use Rattle.psi_pool.proofs.nodes.count_states.Given as goal

abbrev pub invariant-loop-place : goal.invariant-loop-place
invariant-loop-place l = record {
  count : l.count ≡ length (ascending (states l.nodes l.place));
  few : l.count ≤ l.place;
}
