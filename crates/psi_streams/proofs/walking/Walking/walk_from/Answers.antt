-- The way of the network is one of its system, whose sums are those of the network.
use Rattle.psi_streams.proofs.WalkingLemmas.{counts_there, counts_back, sums_of, way_there}
use Rattle.psi_streams.proofs.walking.Walking.walk_from.Goals as goal

pub run-end-requires-clause-walker : goal.run-end-requires-clause-walker
run-end-requires-clause-walker c = way_there _ c.system.result c.args.net.now c.system.ensures.caps c.system.ensures.functions _ c.requires.way

pub run-end-requires-clause-counts : goal.run-end-requires-clause-counts
run-end-requires-clause-counts c = counts_there _ c.system.result c.args.net.now c.system.ensures.caps c.system.ensures.functions _ c.requires.counts

pub returns-clause-counts : goal.returns-clause-counts
returns-clause-counts c = counts_back _ c.system.result c.args.net.now c.system.ensures.caps c.system.ensures.functions _ c.run-end.ensures.counts

pub returns-clause-walked : goal.returns-clause-walked
returns-clause-walked c =
    let system = c.system.ensures in
    let sums = rw c.new.ensures at c.run-end.ensures.sums in
    sums_of _ c.system.result c.args.net.now c.system.ensures.caps c.system.ensures.functions c.args.seed c.args.stream c.args.self.now.steps c.args.start system.kept
    c.requires.within system.rates _ sums
