-- Invariants of the loops of `header::push_queues`.
use Rattle.std.proofs.Common.{◌≡◌, [], ◌++◌, map, take, codes}
use Rattle.csv.specs.Records.{fields_of, partial_of}
use Rattle.psi_table.proofs.header.push_queues.Given as goal

abbrev pub invariant-loop-queue : goal.invariant-loop-queue
invariant-loop-queue l = record {
  fields : fields_of l.header ≡ fields_of l.fn.header ++ map (λ q. codes "queue." ++ q.name) (take l.queue l.net.queues);
  whole : partial_of l.header ≡ [];
}
