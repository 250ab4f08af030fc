-- Answers in the proof of `surely_fits`.
use Rattle.std.proofs.Common.{◌≤◌, inl, inr}
use Rattle.psi_log_writer.proofs.WalkingLemmas.{walking-ample}
use Rattle.psi_log_writer.proofs.WidthLemmas.{left-fits}
use Rattle.psi_log_writer.proofs.writing.surely_fits.Goals as goal

pub returns-then-is_roomy-clause-fits : goal.returns-then-is_roomy-clause-fits
returns-then-is_roomy-clause-fits g c sure =
    left-fits g.E.EventLaw.capacities g.E.EventLaw.function c.args.plan.now.system (g.P.Past.words c.args.plan.now.past) c.args.header.now c.args.state.now c.args.place c.args.room
    g.met.E.EventLaw.closed c.limit-limit.ensures.fit c.requires.most c.if-place-lt2.false c.requires.place c.requires.version c.len-queues.ensures.vector (inl (c.is_roomy.ensures sure))

pub returns-else-is_roomy-clause-fits : goal.returns-else-is_roomy-clause-fits
returns-else-is_roomy-clause-fits g c sure =
    let low : 2 ≤ c.args.place = c.if-place-lt2.false in
    let ample = walking-ample g.E.EventLaw.function g.P.Past.words c.args.plan.now c.args.header.now.horizon c.args.place c.args.room c.args.told.now low c.requires.place c.requires.walking
    (c.is_ample.ensures.ample sure) in
    left-fits g.E.EventLaw.capacities g.E.EventLaw.function c.args.plan.now.system (g.P.Past.words c.args.plan.now.past) c.args.header.now c.args.state.now c.args.place c.args.room
    g.met.E.EventLaw.closed c.limit-limit.ensures.fit c.requires.most low c.requires.place c.requires.version c.len-queues.ensures.vector (inr ample)
