-- Invariants of the loops of `check::push_queues`.
use Rattle.std.proofs.Common.{◌≡◌, ◌++◌, take}
use Rattle.std.specs.List.{flat_map}
use Rattle.psi_reply.specs.Check.{queue_line}
use Rattle.psi_reply.proofs.check.push_queues.Given as goal

abbrev pub invariant-loop-i : goal.invariant-loop-i
invariant-loop-i l = l.text.items ≡ l.fn.text.items ++ flat_map (λ q. queue_line q.name q.capacity q.servers) (take l.i l.net.queues)
