-- Answers in the proof of `header::push_queues`.
use Rattle.std.specs.Prelude.{codes}
use Rattle.psi_net_model.specs.declared.entries.Queue.{Queue}
use Rattle.psi_table.proofs.HeaderLemmas.{names_pushed}
use Rattle.psi_table.proofs.header.push_queues.Goals as goal

pub loop-queue-preserved : goal.loop-queue-preserved
loop-queue-preserved c =
    let pushed = c.in_ok-push_column.ensures in
    record {
      fields = names_pushed (λ (x : Queue). x.name) (codes "queue.") c.args.net.now.queues c.loop-queue.queue c.name.result _ _ _ pushed.fields c.loop-queue.invariant.fields c.name.ensures;
      whole = pushed.whole;
    }
