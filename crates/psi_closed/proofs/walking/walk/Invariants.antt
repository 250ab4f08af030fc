-- Invariants of the loop of `walk`.
use Rattle.std.proofs.Common.{◌≡◌, length, map, take}
use Rattle.psi_kinds.specs.Moves.{moved}
use Rattle.psi_closed.specs.Closed.{walk_of}
use Rattle.psi_closed.proofs.walking.walk.Given as goal

-- the numbers that are left make of the state what all make of the first one
abbrev pub invariant-loop-place : goal.invariant-loop-place
invariant-loop-place l = record {
  long : length l.state ≡ length l.caps;
  left : walk_of (map (λ m. moved l.caps m) l.moves) (take l.place l.numbers) l.state ≡ walk_of (map (λ m. moved l.caps m) l.moves) (take l.left l.numbers) l.fn.start;
}
