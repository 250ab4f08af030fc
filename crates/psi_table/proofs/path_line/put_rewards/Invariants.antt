-- Invariants of the loops of `path_line::put_rewards`.
use Rattle.std.proofs.Common.{◌≡◌, ℕ, ◌+◌, ◌*◌, ◌^◌, ◌<◌, ◌≤◌, ◌++◌, slice_index_or, pos, vec_len, vec_capacity}
use Rattle.std.specs.Int.RustNames.{unsigned_abs}
use Rattle.psi_table.specs.PathLines.{pieces, reward_piece}
use Rattle.psi_table.proofs.path_line.put_rewards.Given as goal

abbrev pub invariant-loop-r : goal.invariant-loop-r
invariant-loop-r l = record {
  text : l.line.items ≡ l.fn.line.items ++ pieces (reward_piece l.walk) l.r;
  small : (r : ℕ) → r < l.r → unsigned_abs (slice_index_or l.walk.rewards r (pos 0)) ≤ 2 ^ 127;
  count : vec_len l.line ≤ vec_len l.fn.line + 41 * l.r;
  room : vec_capacity l.fn.line ≤ vec_capacity l.line;
}
