-- Answers in the proof of `check::push_queues`.
use Rattle.std.specs.Prelude.{ℕ, List}
use Rattle.std.proofs.Common.{ap, ◌∙◌, arith}
use Rattle.psi_net_model.specs.declared.entries.Queue.{Queue}
use Rattle.psi_reply.specs.Check.{queue_line}
use Rattle.psi_reply.proofs.EntriesLemmas.{entry_at, field_of, lines-more}
use Rattle.psi_reply.proofs.check.push_queues.Goals as goal

pub loop-i-preserved : goal.loop-i-preserved
loop-i-preserved c =
    let found = entry_at c.args.net.now.queues c.loop-i.i (omega arith) in
    let name = field_of (λ (q : Queue). q.name) c.args.net.now.queues c.loop-i.i found.0 c.name-name.result found.1 c.name-name.ensures in
    lines-more (λ (q : Queue). queue_line q.name q.capacity q.servers) c.args.net.now.queues c.loop-i.i found.0 c.args.text.now.items c.loop-i.text.items c.push_queue.new.text.items
    _ found.1 c.loop-i.invariant c.in_ok-push_queue.ensures
    (ap (λ (n : List ℕ). queue_line n c.capacity.result c.servers.result) (c.bytes.ensures.value ∙ name)
    ∙ (ap (λ n. queue_line found.0.name n c.servers.result)
    (field_of (λ (q : Queue). q.capacity) c.args.net.now.queues c.loop-i.i found.0 c.capacity.result found.1 c.capacity.ensures)
    ∙ ap (λ n. queue_line found.0.name found.0.capacity n)
    (field_of (λ (q : Queue). q.servers) c.args.net.now.queues c.loop-i.i found.0 c.servers.result found.1 c.servers.ensures)))
