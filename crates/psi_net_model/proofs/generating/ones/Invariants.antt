-- Invariants of the loops of `ones`.
use Rattle.std.proofs.Common.{◌≡◌, replicate, pos}
use Rattle.psi_net_model.proofs.generating.ones.Given as goal

abbrev pub invariant-loop-place : goal.invariant-loop-place
invariant-loop-place l = l.weights ≡ replicate l._place (pos 1)
