-- Each queue's summary is put together with its customers.
use Rattle.std.proofs.Common.{◌≡◌, ◌+◌, ◌*◌, ◌<◌, ◌≤◌, ◌^◌, ◌∙◌, ap, pos, w64, to_z, get_or, rules, arith}
use Rattle.std.specs.Int.RustNames.{unsigned_abs}
use Rattle.std.proofs.lemmas.Int.{ints}
use Rattle.std.proofs.lemmas.List.{get_or_default}
use Rattle.std.proofs.lemmas.List.Elements.{All-set}
use Rattle.psi_report.specs.declared.summary.Summary.{Summary}
use Rattle.psi_report.specs.Joined.{with_value, with_customers}
use Rattle.psi_report.proofs.PairLemmas.{paired_more}
use Rattle.psi_report.proofs.SmallLemmas.{small_read, small_before}
use Rattle.psi_report.proofs.summary.add_customers.Goals as goal

pub with_value-requires : goal.with_value-requires
with_value-requires c =
    small_read (with_customers c.args.count) c.args.queues.now.items c.loop-queue.queues.items c.args.state.now c.loop-queue.queue c.index.result.now
    c.requires.fit c.loop-queue.invariant.values (omega arith) c.index.ensures

pub loop-queue-preserved : goal.loop-queue-preserved
loop-queue-preserved c =
    let small : c.get-customers.result < 2 ^ 16 = search rules in
    let cast : to_z w64 c.get-customers.result ≡ pos c.get-customers.result = omega (arith, ints) in
    let read : c.get-customers.result ≡ get_or c.args.state.now c.loop-queue.queue c.get-customers.result =
    c.get-customers.ensures ∙ get_or_default c.args.state.now c.loop-queue.queue 0 c.get-customers.result (omega arith) in
    let made : c.with_value.result ≡ with_customers c.args.count c.index.result.now c.get-customers.result =
    c.with_value.ensures.value ∙ ap (λ z. with_value c.args.count c.index.result.now z) cast in
    record {
      values = rw made (paired_more (with_customers c.args.count) c.args.queues.now.items c.loop-queue.queues.items c.args.state.now c.loop-queue.queue c.index.result.now
          c.get-customers.result (omega arith) (omega arith) c.loop-queue.invariant.values c.index.ensures read);
      small = λ n few. All-set (λ (s : Summary). unsigned_abs s.sum ≤ (n + 1) * 2 ^ 63) c.loop-queue.queues.items c.loop-queue.queue c.with_value.result
          (c.with_value.ensures.small n (small_before n (with_customers c.args.count) c.args.queues.now.items c.loop-queue.queues.items c.args.state.now c.loop-queue.queue
          c.index.result.now few c.loop-queue.invariant.values (omega arith) c.index.ensures))
          (c.loop-queue.invariant.small n few);
    }
