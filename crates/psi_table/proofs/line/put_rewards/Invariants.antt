-- Invariants of the loops of `line::put_rewards`.
use Rattle.std.proofs.Common.{◌≡◌, ◌+◌, ◌*◌, ◌^◌, ◌≤◌, ◌++◌, take, All, vec_len, vec_capacity}
use Rattle.std.specs.Int.RustNames.{unsigned_abs}
use Rattle.psi_reward.specs.Worth.{worth_of}
use Rattle.psi_table.specs.Lines.{rewards_fields}
use Rattle.psi_table.proofs.line.put_rewards.Given as goal

abbrev pub invariant-loop-reward : goal.invariant-loop-reward
invariant-loop-reward l = record {
  text : l.line.items ≡ l.fn.line.items ++ rewards_fields l.state (take l.reward l.net.rewards);
  small : All (λ r. unsigned_abs (worth_of r.kind l.state) ≤ 2 ^ 63) (take l.reward l.net.rewards);
  count : vec_len l.line ≤ vec_len l.fn.line + 22 * l.reward;
  room : vec_capacity l.fn.line ≤ vec_capacity l.line;
}
