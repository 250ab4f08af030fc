-- Answers in the proof of `step_line`.
use Rattle.std.proofs.Common.{◌≤◌, length, Some, None, refl, ap, arith}
use Rattle.psi_horizon.specs.Planned.{Planned}
use Rattle.psi_log_writer.proofs.WalkingLemmas.{told-next, states-next, line-box, line-set}
use Rattle.psi_log_writer.proofs.steps.step_line.Goals as goal

pub add_step_set-requires : goal.add_step_set-requires
add_step_set-requires g c =
    let few : length c.states.result.now ≤ c.advance.new.self.system.split = c.states.ensures.few in
    let same = ap (λ (p : Planned g.row.E.Denot g.row.P.Denot). p.system.split) (c.in-Some.ensures.run refl) in
    let most = c.limit-limit.ensures.fit.most_split in
    let room = c.requires.room in
    omega arith

pub returns-in-Some-bounds-clause-told : goal.returns-in-Some-bounds-clause-told
returns-in-Some-bounds-clause-told g c =
    told-next g.E.EventLaw.function g.P.Past.words c.args.plan.now c.advance.new.self (Some c.in-Some-bounds.after) (c.in-Some.ensures.run refl)
    c.in-Some-bounds.ensures.shown c.in-Some-bounds.ensures.ordered c.in-Some-bounds.ensures.within

pub returns-in-Some-bounds-clause-line : goal.returns-in-Some-bounds-clause-line
returns-in-Some-bounds-clause-line g c =
    let plan = c.args.plan.now in
    line-box g.E.EventLaw.function plan.system (g.P.Past.words plan.past) plan.run c.in-Some.step c.args.told.now c.in-Some-bounds.after c.args.line.now c.box_line.new.line
    c.in-Some.ensures.time c.in-Some.ensures.event c.requires.before (returns-in-Some-bounds-clause-told g c) c.box_line.ensures

pub returns-in-None-clause-told : goal.returns-in-None-clause-told
returns-in-None-clause-told g c =
    told-next g.E.EventLaw.function g.P.Past.words c.args.plan.now c.advance.new.self None (c.in-Some.ensures.run refl)
    c.in-None.ensures.shown c.in-None.ensures.ordered c.in-None.ensures.within

pub returns-in-None-clause-line : goal.returns-in-None-clause-line
returns-in-None-clause-line g c =
    let plan = c.args.plan.now in
    line-set g.E.EventLaw.function plan.system (g.P.Past.words plan.past) plan.run c.in-Some.step c.states.result.now c.args.line.now c.add_step_set.new.self
    c.in-Some.ensures.time c.in-Some.ensures.event (returns-in-None-clause-told g c)
    (states-next g.E.EventLaw.function g.P.Past.words plan c.advance.new.self c.states.result.now (c.in-Some.ensures.run refl) c.states.ensures.states)
    c.add_step_set.ensures
