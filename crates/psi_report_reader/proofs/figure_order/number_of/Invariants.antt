-- The sums before it are counted.
use Rattle.std.proofs.Common.{◌≡◌, take}
use Rattle.std.specs.Prelude.{count_by}
use Rattle.psi_report_reader.specs.Sound.{same_sum}
use Rattle.psi_report_reader.proofs.figure_order.number_of.Given as goal

abbrev pub invariant-loop-figure : goal.invariant-loop-figure
invariant-loop-figure l = l.number ≡ count_by (λ e. same_sum e.item l.sum.item) (take l.figure-index l.before)
