-- Invariants of the loops of `same::are_same`.
use Rattle.std.specs.Prelude.{◌≡◌, take, false}
use Rattle.psi_log_scan.proofs.same.are_same.Given as goal

-- the bytes so far are the same
abbrev pub invariant-loop-place : goal.invariant-loop-place
invariant-loop-place l = l.apart ≡ false → take l.place l.bytes ≡ take l.place l.others
