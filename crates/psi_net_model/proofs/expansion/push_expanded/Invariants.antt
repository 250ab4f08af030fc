-- Invariants of the loops of `push_expanded`.
use Rattle.std.proofs.Common.{◌≡◌, ◌++◌}
use Rattle.psi_net_model.specs.Expansion.{served_by}
use Rattle.psi_net_model.proofs.expansion.push_expanded.Given as goal

abbrev pub invariant-loop-place : goal.invariant-loop-place
invariant-loop-place l = l.events.items ≡ l.fn.events.items ++ served_by l.place l.event
