-- Invariants of the loops of `path_line::put_queues`.
use Rattle.std.proofs.Common.{◌≡◌, ℕ, ◌+◌, ◌*◌, ◌^◌, ◌<◌, ◌≤◌, ◌++◌, slice_index, vec_len, vec_capacity}
use Rattle.psi_table.specs.PathLines.{pieces, customers_piece}
use Rattle.psi_table.proofs.path_line.put_queues.Given as goal

abbrev pub invariant-loop-q : goal.invariant-loop-q
invariant-loop-q l = record {
  text : l.line.items ≡ l.fn.line.items ++ pieces (customers_piece l.walk) l.q;
  small : (q : ℕ) → q < l.q → slice_index l.walk.queues q < 2 ^ 64;
  count : vec_len l.line ≤ vec_len l.fn.line + 21 * l.q;
  room : vec_capacity l.fn.line ≤ vec_capacity l.line;
}
