-- Answers in the proof of `all_lowered`.
use Rattle.psi_net_model.proofs.LoweredLemmas.{lowered_more}
use Rattle.psi_net_model.proofs.building.all_lowered.Goals as goal

pub loop-event-preserved : goal.loop-event-preserved
loop-event-preserved c = lowered_more c.args.caps c.args.events.now c.loop-event.event-index c.event-item.result c.loop-event.made.items c.push.new.self.items c.in_ok-one.one
    c.loop-event-test.true c.event-item.is c.in_ok-one.ensures.caps c.in_ok-one.ensures.does c.in_ok-one.ensures.upset c.in_ok-push.ensures.items c.loop-event.invariant
