-- Invariants of the loops of `fork_parts`.
use Rattle.std.proofs.Common.{◌≡◌, ◌++◌, map, take}
use Rattle.psi_kinds.specs.Forms.{gaining_part, source_parts}
use Rattle.psi_kinds.proofs.parting.fork_parts.Given as goal

abbrev pub invariant-loop-i : goal.invariant-loop-i
invariant-loop-i l = l.parts ≡ source_parts l.caps l.fn.from ++ map (gaining_part l.caps) (take l.i l.to)
