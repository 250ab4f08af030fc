-- Invariants of the loops of `state_list::push_numbers`.
use Rattle.std.specs.Prelude.{◌≡◌, ◌≤◌, ◌+◌, ◌-◌, ◌++◌, take, vec_len, vec_capacity}
use Rattle.psi_log_format.proofs.state_list.push_numbers.Given as goal

abbrev pub invariant-loop-queue : goal.invariant-loop-queue
invariant-loop-queue l = record {
  items : l.numbers.items ≡ l.fn.numbers.items ++ take l.queue l.x;
  room : vec_len l.numbers + (l.queues - l.queue) ≤ vec_capacity l.numbers;
}
