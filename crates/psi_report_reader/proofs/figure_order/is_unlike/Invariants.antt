-- None of the figures before it is of the same queue or reward.
use Rattle.std.proofs.Common.{◌≡◌, drop}
use Rattle.std.specs.Prelude.{not}
use Rattle.std.specs.List.{list_all}
use Rattle.psi_report_reader.specs.Sound.{is_alike}
use Rattle.psi_report_reader.proofs.figure_order.is_unlike.Given as goal

abbrev pub invariant-loop-figure : goal.invariant-loop-figure
invariant-loop-figure l = list_all (λ e. not (is_alike e l.sum)) (drop l.figure-index l.before) ≡ list_all (λ e. not (is_alike e l.sum)) l.before
