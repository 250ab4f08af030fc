-- Invariants of the loops of `index_all`.
use Rattle.std.proofs.Common.{◌≡◌}
use Rattle.psi_net_model.proofs.expansion.index_all.Given as goal

abbrev pub invariant-loop-place : goal.invariant-loop-place
invariant-loop-place l = l.events ≡ l.fn.events
