-- The summaries up to the place have become those of both parts.
use Rattle.std.proofs.Common.{◌≡◌, take}
use Rattle.psi_report.specs.Joined.{paired, joined_summary}
use Rattle.psi_report.proofs.summary.join_all.Given as goal

abbrev pub invariant-loop-place : goal.invariant-loop-place
invariant-loop-place l = l.own.items ≡ paired (joined_summary l.count l.others) l.fn.own.items (take l.place l.other.items)
