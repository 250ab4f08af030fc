-- Invariants of the loops of `same::few_alike`.
use Rattle.std.specs.Prelude.{◌≡◌, take}
use Rattle.psi_log_scan.proofs.same.few_alike.Given as goal

-- the bytes so far are the same
abbrev pub invariant-loop-place : goal.invariant-loop-place
invariant-loop-place l = take l.place l.text ≡ take l.place l.other
