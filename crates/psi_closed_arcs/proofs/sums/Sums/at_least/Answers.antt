-- Answers in the proof of `Sums::at_least`.
use Rattle.std.proofs.Common.{◌≤◌}
use Rattle.psi_closed_arcs.proofs.SumsLemmas.{has-masked}
use Rattle.psi_closed_arcs.proofs.sums.Sums.at_least.Goals as goal

pub returns : goal.returns
returns c t small =
    has-masked c.args.self.now (λ t. c.args.first ≤ t) c.ones_from.result c.ones_from-2.result c.ones_from-3.result c.ones_from-4.result c.ones_from-5.result t
    c.ones_from.ensures c.ones_from-2.ensures c.ones_from-3.ensures c.ones_from-4.ensures c.ones_from-5.ensures small
