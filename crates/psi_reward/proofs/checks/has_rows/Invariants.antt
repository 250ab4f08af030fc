-- Invariants of the loops of `has_rows`.
use Rattle.std.proofs.Common.{◌≡◌, true, drop}
use Rattle.psi_reward.specs.Held.{held}
use Rattle.psi_reward.specs.Refusing.{has_rows}
use Rattle.psi_reward.proofs.checks.has_rows.Given as goal

abbrev pub invariant-loop-place : goal.invariant-loop-place
invariant-loop-place l = record { fits : has_rows (held (drop l.place l.queues) l.caps) (drop l.place l.table) ≡ true }
