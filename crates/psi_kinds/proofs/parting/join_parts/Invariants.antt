-- Invariants of the loops of `join_parts`.
use Rattle.std.proofs.Common.{◌≡◌, map, take}
use Rattle.psi_kinds.specs.Forms.{losing_part}
use Rattle.psi_kinds.proofs.parting.join_parts.Given as goal

abbrev pub invariant-loop-i : goal.invariant-loop-i
invariant-loop-i l = l.parts ≡ map (λ q. losing_part l.caps 1 q 1) (take l.i l.from)
