-- No sample.
use Rattle.psi_report.proofs.SmallLemmas.{small_none}
use Rattle.psi_report.proofs.StandsLemmas.{stands_none}
use Rattle.psi_report.proofs.tally.Tally.new.Goals as goal

pub invariant_of-result : goal.invariant_of-result
invariant_of-result c =
    (small_none 0 c.queues.result c.in_ok-of_none.field-0.items c.in_ok-of_none.ensures, small_none 0 c.rewards.result c.in_ok-of_none-2.field-0.items c.in_ok-of_none-2.ensures)

pub returns : goal.returns
returns c = stands_none c.args.net.now _ (cc (c.in_ok-of_none.ensures, c.in_ok-of_none-2.ensures, c.queues.ensures.count, c.rewards.ensures))
