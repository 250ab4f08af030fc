-- Answers in the proof of `spread_images`.
use Rattle.std.proofs.Common.{◌∙◌}
use Rattle.psi_exact.proofs.SpreadLemmas.{filled-all}
use Rattle.psi_exact.proofs.spread.spread_images.Goals as goal

pub returns : goal.returns
returns g c = λ yes.
    filled-all (g.E.EventLaw.capacities c.args.e.now) (g.E.EventLaw.function c.args.e.now) c.span_of-span.result c.spread_all.new.ranks
    (c.spread_all.auto.ranks ∙ (c.write_bases.auto.ranks ∙ c.requires.room)) c.spread_all.ensures
