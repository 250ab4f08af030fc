-- The rises by one event more are there.
use Rattle.std.specs.Prelude.{length, map}
use Rattle.psi_event.specs.Law.{IsClosed}
use Rattle.psi_path.specs.Sums.{worth_at}
use Rattle.psi_path_packed.specs.Rises.{IsChange}
use Rattle.psi_path_packed.proofs.RisesLemmas.{at-place, worth-rises, rises-more}
use Rattle.psi_path_packed.proofs.rises.reward_rises.Goals as goal

pub loop-event-preserved : goal.loop-event-preserved
loop-event-preserved g c =
    let k = c.loop-event.event-index in
    let events = c.args.events.now in
    let caps = g.R.Rewards.capacities c.args.rewards.now in
    let worths = g.R.Rewards.worths c.args.rewards.now in
    let ups = c.in-Some.change.ups in
    let downs = c.in-Some.change.downs in
    let change = at-place g.E.EventLaw.capacities g.E.EventLaw.function caps events k c.event-item.result (λ cs f. IsChange cs f ups downs) c.loop-event-test.true c.event-item.is c.requires.caps c.in-Some.ensures in
    let closed = at-place g.E.EventLaw.capacities g.E.EventLaw.function caps events k c.event-item.result (λ cs f. IsClosed cs f) c.loop-event-test.true c.event-item.is c.requires.caps
    (g.met.E.EventLaw.closed c.event-item.result) in
    let put = c.in_ok-push_values.ensures in
    let yes = c.if-not-branch.false in
    record {
      rises = rises-more caps (map g.E.EventLaw.function events) (length worths) (worth_at worths) k c.loop-event.rises.items c.push_values.new.rises.items
          _ c.loop-event.invariant.rises (put.longer yes) (put.small yes)
          (λ r small. worth-rises caps _ ups downs (worth_at worths r) closed change (put.additive yes r small));
    }
