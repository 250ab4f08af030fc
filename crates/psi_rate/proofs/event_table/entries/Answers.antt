-- Answers in the proof of `entries`.
use Rattle.std.proofs.Common.{◌*◌, ◌-◌, ◌%◌, ◌^◌, ap, arith}
use Rattle.std.proofs.lemmas.Nat.{one_shl}
use Rattle.std.proofs.lemmas.Grind.{common_steps}
use Rattle.psi_rate.proofs.EventTableLemmas.{filled-first, filled-stretch}
use Rattle.psi_rate.proofs.event_table.entries.Goals as goal

pub loop-event-preserved : goal.loop-event-preserved
loop-event-preserved c =
    let kept = c.loop-event.invariant in
    let event = c.loop-event.event in
    let more = filled-stretch c.args.totals.now c.loop-event.entries.items c.fill.new.entries.items c.args.shift event c.args.count ((1 * 2 ^ c.args.shift) % 2 ^ 32 - 1)
    (ap (λ n. n - 1) (one_shl c.args.shift 32 c.requires.shift)) c.fill.ensures.items c.loop-event-test.true (c.requires.within event c.loop-event-test.true)
    kept.most kept.first kept.below in
    record {
      room = (let r = kept.room in let same = c.fill.ensures.capacity in omega arith);
      most = more.0;
      below = more.1;
      first = more.2;
    }

pub returns-clause-first : goal.returns-clause-first
returns-clause-first c = grind (arith, common_steps, filled-first)
