-- Answers in the proof of `Region::single`.
use Rattle.psi_region.proofs.StepsLemmas.{states-unsplit, single-one, two-unsplit}
use Rattle.psi_region.proofs.region.Region.single.Goals as goal

pub returns-clause-value : goal.returns-clause-value
returns-clause-value c =
    let held = c.self.inside in
    let states = states-unsplit held.split held.is_split held.bounds held.pool.states c.args.self.now c.self.view_is c.if-self.false in
    single-one held.bounds c.lo.result c.hi.result c.args.self.now.area.states c.one_of.result c.lo.ensures.ordered states
    c.lo.ensures.value c.hi.ensures.value c.one_of.ensures

pub returns-clause-more : goal.returns-clause-more
returns-clause-more c = λ none.
    (let held = c.self.inside in
    let states = states-unsplit held.split held.is_split held.bounds held.pool.states c.args.self.now c.self.view_is c.if-self.false in
    two-unsplit held.bounds c.lo.result c.hi.result c.args.self.now.area.states c.one_of.result c.lo.ensures.ordered states
    c.lo.ensures.value c.hi.ensures.value c.one_of.ensures none)
