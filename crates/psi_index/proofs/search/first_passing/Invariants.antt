-- Invariants of the loops of `first_passing`.
use Rattle.std.proofs.Common.{◌<◌, ◌≤◌, ◌-◌, true, false}
use Rattle.psi_index.proofs.search.first_passing.Given as goal

abbrev pub invariant-loop-first : goal.invariant-loop-first
invariant-loop-first g l = record {
  from : l.low ≤ l.first;
  ordered : l.first ≤ l.past;
  within : l.past ≤ l.high;
  before : l.low < l.first → goal.F-post g l.passes (l.first - 1) false;
  found : l.past < l.high → goal.F-post g l.passes l.past true;
}

abbrev pub decreases-loop-first : goal.decreases-loop-first
decreases-loop-first g l = l.past - l.first
