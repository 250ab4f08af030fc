-- Invariants of the loops of `number::put_empty`.
use Rattle.std.proofs.Common.{◌≡◌, ◌+◌, ◌≤◌, ◌++◌, replicate, vec_len, vec_capacity}
use Rattle.psi_table.proofs.number.put_empty.Given as goal

abbrev pub invariant-loop-field : goal.invariant-loop-field
invariant-loop-field l = record {
  text : l.line.items ≡ l.fn.line.items ++ replicate l._field 44;
  count : vec_len l.line ≡ vec_len l.fn.line + l._field;
  room : vec_capacity l.fn.line ≤ vec_capacity l.line;
}
