-- Invariants of the loops of `fill`.
use Rattle.std.proofs.Common.{◌≡◌, ◌++◌}
use Rattle.psi_state.specs.State.{box}
use Rattle.psi_region.proofs.region.fill.Given as goal

-- the states so far, and those still to come
abbrev pub invariant-loop-x : goal.invariant-loop-x
invariant-loop-x l = record {
  states : l.pool.states ++ l.x-iterator ≡ box l.bounds.lo l.bounds.hi;
  most : l.pool.most ≡ l.fn.pool.most;
}
