-- The summaries up to the queue have become those with its customers.
use Rattle.std.proofs.Common.{◌≡◌, ℕ, ◌+◌, take}
use Rattle.psi_report.specs.Joined.{paired, with_customers, AreSmall}
use Rattle.psi_report.proofs.summary.add_customers.Given as goal

abbrev pub invariant-loop-queue : goal.invariant-loop-queue
invariant-loop-queue l = record {
  values : l.queues.items ≡ paired (with_customers l.count) l.fn.queues.items (take l.queue l.state);
  small : (n : ℕ) → AreSmall n l.fn.queues.items → AreSmall (n + 1) l.queues.items;
}
