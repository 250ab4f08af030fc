-- Invariants of the loops of `least_held`.
use Rattle.std.proofs.Common.{◌≡◌, pos, map, drop}
use Rattle.psi_reward.specs.Held.{held}
use Rattle.psi_reward.specs.Ranges.{least}
use Rattle.psi_reward.proofs.extremes.least_held.Given as goal

abbrev pub invariant-loop-place : goal.invariant-loop-place
invariant-loop-place l = record { value : l.least ≡ least (map pos (held (drop l.place l.queues) l.x)) }
