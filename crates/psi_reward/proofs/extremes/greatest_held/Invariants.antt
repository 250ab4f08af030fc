-- Invariants of the loops of `greatest_held`.
use Rattle.std.proofs.Common.{◌≡◌, pos, map, drop}
use Rattle.psi_reward.specs.Held.{held}
use Rattle.psi_reward.specs.Ranges.{greatest}
use Rattle.psi_reward.proofs.extremes.greatest_held.Given as goal

abbrev pub invariant-loop-place : goal.invariant-loop-place
invariant-loop-place l = record { value : l.greatest ≡ greatest (map pos (held (drop l.place l.queues) l.x)) }
