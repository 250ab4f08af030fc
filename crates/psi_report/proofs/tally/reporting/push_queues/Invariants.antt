-- Invariants of the loops of `reporting::push_queues`.
use Rattle.std.proofs.Common.{◌≡◌, ◌++◌, map, take}
use Rattle.psi_report.specs.Report.{queue_trio}
use Rattle.psi_report.specs.Figures.{summaries_figures}
use Rattle.psi_report.proofs.tally.reporting.push_queues.Given as goal

abbrev pub invariant-loop-i : goal.invariant-loop-i
invariant-loop-i l = l.figures.items ≡ l.fn.figures.items ++ summaries_figures queue_trio l.met (take l.i (map (λ q. q.name) l.net.queues)) (take l.i l.summaries)
