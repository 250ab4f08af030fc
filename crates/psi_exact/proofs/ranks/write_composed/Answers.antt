-- Answers in the proof of `write_composed`.
use Rattle.std.proofs.Common.{arith}
use Rattle.psi_exact.proofs.RankTablesLemmas.{ranks-images, ranks-looked_up, table_of-older}
use Rattle.psi_exact.proofs.ranks.write_composed.Goals as goal

pub look_up-requires : goal.look_up-requires
look_up-requires g c =
    let are = ranks-images (g.E.EventLaw.capacities c.args.e.now) (g.E.EventLaw.function c.args.e.now) c.write_images.new.ranks (g.met.E.EventLaw.closed c.args.e.now) c.write_images.ensures in
    let whole = are.whole in
    let own = c.requires.own.whole in
    λ r small. (let fits = are.each r (omega arith) in omega arith)

pub returns-clause-ranks : goal.returns-clause-ranks
returns-clause-ranks g c =
    ranks-looked_up (g.E.EventLaw.capacities c.args.e.now) c.args.ranks.now c.write_images.new.ranks c.look_up.new.ranks c.requires.own
    (ranks-images (g.E.EventLaw.capacities c.args.e.now) (g.E.EventLaw.function c.args.e.now) c.write_images.new.ranks (g.met.E.EventLaw.closed c.args.e.now) c.write_images.ensures)
    c.look_up.auto.ranks c.look_up.ensures

pub returns-clause-map : goal.returns-clause-map
returns-clause-map g c =
    table_of-older (g.E.EventLaw.capacities c.args.e.now) c.args.ranks.now c.write_images.new.ranks c.look_up.new.ranks (g.E.EventLaw.function c.args.e.now)
    (g.met.E.EventLaw.closed c.args.e.now) c.requires.own c.write_images.ensures c.look_up.auto.ranks c.look_up.ensures
