-- Invariants of the loops of `regions::least_room`.
use Rattle.std.specs.Prelude.{ℕ, ◌<◌, ◌≤◌, slice_index}
use Rattle.psi_replay.proofs.regions.least_room.Given as goal

-- as many fit in each of the queues so far
abbrev pub invariant-loop-queue : goal.invariant-loop-queue
invariant-loop-queue l = (k : ℕ) → k < l.queue → l.least ≤ slice_index l.caps k
