-- The rises by one event more are there.
use Rattle.std.specs.Prelude.{ℕ, pos, ◌-ℤ◌, length, map, slice_index}
use Rattle.std.proofs.Common.{subst, arith}
use Rattle.psi_path_packed.specs.Rises.{IsChange}
use Rattle.psi_path_packed.specs.Inner.RisesKept.{IsLonger}
use Rattle.psi_path_packed.proofs.RisesLemmas.{at-place, customers-rise, few-rise, rises-more}
use Rattle.psi_path_packed.proofs.rises.customer_rises.Goals as goal

pub loop-event-preserved : goal.loop-event-preserved
loop-event-preserved g c =
    let k = c.loop-event.event-index in
    let events = c.args.events.now in
    let caps = c.args.caps.now in
    let ups = c.in-Some.change.ups in
    let downs = c.in-Some.change.downs in
    let change = at-place g.E.EventLaw.capacities g.E.EventLaw.function caps events k c.event-item.result (λ cs f. IsChange cs f ups downs) c.loop-event-test.true c.event-item.is c.requires.caps c.in-Some.ensures in
    let bits = c.len-queues.ensures.vector.each in
    let longer = subst (λ (n : ℕ). IsLonger c.loop-event.rises.items n (λ q. pos (slice_index ups q) -ℤ pos (slice_index downs q)) c.push_customers.new.rises.items) change.ups_within.same_length
    c.in_ok-push_customers.ensures in
    record {
      rises = rises-more caps (map g.E.EventLaw.function events) (length caps) (λ q x. pos (slice_index x q)) k c.loop-event.rises.items c.push_customers.new.rises.items
          (λ q. pos (slice_index ups q) -ℤ pos (slice_index downs q)) c.loop-event.invariant.rises longer
          (λ q small. few-rise (slice_index downs q) (slice_index ups q)
          (let most = change.downs_within.each q (omega (arith, small, change.downs_within.same_length)) in let few = bits q in omega arith)
          (let most = change.ups_within.each q (omega (arith, small, change.ups_within.same_length)) in let few = bits q in omega arith))
          (λ q small. customers-rise caps _ ups downs change q small);
    }
