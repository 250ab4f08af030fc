-- Answers in the proof of `Region::settle`.
use Rattle.psi_region.proofs.StepsLemmas.{held-split, rested-held}
use Rattle.psi_region.proofs.region.Region.settle.Goals as goal

pub invariant_of-self : goal.invariant_of-self
invariant_of-self c =
    let held = c.self.inside in
    held-split held.split held.is_split held.bounds held.pool c.fill.new.pool c.self.invariant c.fill.ensures.most c.fill.ensures.states

pub returns-then-is_some-clause-rested : goal.returns-then-is_some-clause-rested
returns-then-is_some-clause-rested c =
    let held = c.self.inside in
    rested-held c.args.self.now.split held.split held.is_split held.bounds held.pool.states c.args.self.now c.self.view_is c.self.invariant.rising c.self.invariant.ordered

pub returns-else-not-self-clause-rested : goal.returns-else-not-self-clause-rested
returns-else-not-self-clause-rested c =
    let held = c.self.inside in
    rested-held c.args.self.now.split held.split held.is_split held.bounds held.pool.states c.args.self.now c.self.view_is c.self.invariant.rising c.self.invariant.ordered
