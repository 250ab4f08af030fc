-- Answers in the proof of `Region::advance`.
use Rattle.psi_region.proofs.StepsLemmas.{held-image, held-box, stepped-split, stepped-box, high-within}
use Rattle.psi_region.proofs.region.Region.advance.Goals as goal

pub invariant_of-self : goal.invariant_of-self
invariant_of-self g c =
    let held = c.self.inside in
    held-image held.split held.is_split held.bounds held.pool c.step.new.self (g.E.EventLaw.function c.args.e.now) c.self.invariant c.if-self.true
    c.step.ensures.most c.step.ensures.states

pub invariant_of-self-else-self : goal.invariant_of-self-else-self
invariant_of-self-else-self g c =
    let held = c.self.inside in
    held-box held.split held.is_split held.bounds c.envelope.new.b held.pool (g.E.EventLaw.function c.args.e.now) c.self.invariant c.envelope.ensures.tight

pub envelope-requires : goal.envelope-requires
envelope-requires g c =
    let held = c.self.inside in
    high-within (g.E.EventLaw.capacities c.args.e.now) c.args.self.now c.settle.new.self held.split held.is_split held.bounds held.pool.states
    c.requires c.settle.ensures.area c.self.view_is c.if-self.false c.self.invariant.ordered

pub returns-then-self-clause-area : goal.returns-then-self-clause-area
returns-then-self-clause-area g c =
    let held = c.self.inside in
    stepped-split (g.E.EventLaw.function c.args.e.now) c.args.self.now c.settle.new.self held.split held.is_split held.bounds held.pool.states c.step.new.self.states
    c.settle.ensures.area c.self.view_is c.if-self.true c.step.ensures.states

pub returns-else-self-clause-area : goal.returns-else-self-clause-area
returns-else-self-clause-area g c =
    let held = c.self.inside in
    stepped-box (g.E.EventLaw.function c.args.e.now) c.args.self.now c.settle.new.self held.split held.is_split held.bounds c.envelope.new.b held.pool.states
    c.settle.ensures.area c.self.view_is c.if-self.false c.envelope.ensures.hull
