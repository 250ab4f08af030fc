-- Answers in the proof of `reporting::horizons_of`.
use Rattle.std.proofs.Common.{List, ◌++◌, get_or, ap, ◌∙◌, arith}
use Rattle.psi_report.specs.declared.figure.HorizonCount.{HorizonCount}
use Rattle.psi_report.specs.Figures.{count_of}
use Rattle.psi_report.proofs.TakingLemmas.{no_counts, counts_next}
use Rattle.psi_report.proofs.tally.reporting.horizons_of.Goals as goal

pub loop-exponent-init : goal.loop-exponent-init
loop-exponent-init c = c.new-horizons.ensures.items ∙ no_counts

pub loop-exponent-preserved : goal.loop-exponent-preserved
loop-exponent-preserved c =
    c.in_ok-push_count.ensures
    ∙ ap (λ (hs : List HorizonCount). hs ++ count_of c.loop-exponent.exponent (get_or c.args.counts.now c.loop-exponent.exponent 0)) c.loop-exponent.invariant
    ∙ counts_next c.args.counts.now c.loop-exponent.exponent (omega arith)
