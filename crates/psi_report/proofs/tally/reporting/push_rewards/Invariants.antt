-- Invariants of the loops of `reporting::push_rewards`.
use Rattle.std.proofs.Common.{◌≡◌, ◌++◌, map, take}
use Rattle.psi_report.specs.Report.{reward_trio}
use Rattle.psi_report.specs.Figures.{summaries_figures}
use Rattle.psi_report.proofs.tally.reporting.push_rewards.Given as goal

abbrev pub invariant-loop-r : goal.invariant-loop-r
invariant-loop-r l = l.figures.items ≡ l.fn.figures.items ++ summaries_figures reward_trio l.met (take l.r (map (λ q. q.name) l.net.rewards)) (take l.r l.summaries)
