-- Invariants of the loops of `path_line::put_events`.
use Rattle.std.proofs.Common.{◌≡◌, ℕ, ◌+◌, ◌*◌, ◌^◌, ◌<◌, ◌≤◌, ◌++◌, slice_index, vec_len, vec_capacity}
use Rattle.psi_table.specs.PathLines.{pieces, event_piece}
use Rattle.psi_table.proofs.path_line.put_events.Given as goal

abbrev pub invariant-loop-e : goal.invariant-loop-e
invariant-loop-e l = record {
  text : l.line.items ≡ l.fn.line.items ++ pieces (event_piece l.walk) l.e;
  small : (e : ℕ) → e < l.e → slice_index l.walk.chosen e < 2 ^ 64;
  also_small : (e : ℕ) → e < l.e → slice_index l.walk.changed e < 2 ^ 64;
  count : vec_len l.line ≤ vec_len l.fn.line + 42 * l.e;
  room : vec_capacity l.fn.line ≤ vec_capacity l.line;
}
