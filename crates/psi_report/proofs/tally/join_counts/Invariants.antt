-- The counts up to the place have become sums.
use Rattle.std.proofs.Common.{◌≡◌, ◌+◌, take}
use Rattle.psi_report.specs.Joined.{paired}
use Rattle.psi_report.proofs.tally.join_counts.Given as goal

abbrev pub invariant-loop-place : goal.invariant-loop-place
invariant-loop-place l = l.own ≡ paired (λ m n. m + n) l.fn.own (take l.place l.other)
