-- Invariants of the loops of `same::alike`.
use Rattle.std.specs.Prelude.{◌≡◌, ◌*◌, take}
use Rattle.psi_log_scan.proofs.same.alike.Given as goal

-- the bytes so far are the same
abbrev pub invariant-loop-eight : goal.invariant-loop-eight
invariant-loop-eight l = take (8 * l.eight) l.text ≡ take (8 * l.eight) l.other
