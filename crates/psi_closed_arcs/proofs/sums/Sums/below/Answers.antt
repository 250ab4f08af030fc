-- Answers in the proof of `Sums::below`.
use Rattle.std.proofs.Common.{◌<◌}
use Rattle.psi_closed_arcs.proofs.SumsLemmas.{has-masked}
use Rattle.psi_closed_arcs.proofs.sums.Sums.below.Goals as goal

pub returns : goal.returns
returns c t small =
    has-masked c.args.self.now (λ t. t < c.args.end) c.ones_below.result c.ones_below-2.result c.ones_below-3.result c.ones_below-4.result c.ones_below-5.result t
    c.ones_below.ensures c.ones_below-2.ensures c.ones_below-3.ensures c.ones_below-4.ensures c.ones_below-5.ensures small
