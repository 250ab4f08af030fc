-- Invariants of the loops of `line::put_queues`.
use Rattle.std.proofs.Common.{◌≡◌, ◌+◌, ◌*◌, ◌≤◌, ◌++◌, take, vec_len, vec_capacity}
use Rattle.psi_table.specs.Lines.{customers_fields}
use Rattle.psi_table.proofs.line.put_queues.Given as goal

abbrev pub invariant-loop-queue : goal.invariant-loop-queue
invariant-loop-queue l = record {
  text : l.line.items ≡ l.fn.line.items ++ customers_fields (take l.queue l.state);
  count : vec_len l.line ≤ vec_len l.fn.line + 21 * l.queue;
  room : vec_capacity l.fn.line ≤ vec_capacity l.line;
}
