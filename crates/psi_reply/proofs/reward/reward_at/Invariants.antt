-- Invariants of the loops of `reward::reward_at`.
use Rattle.std.proofs.Common.{◌≡◌, take}
use Rattle.std.specs.Prelude.{None}
use Rattle.psi_reply.specs.Reward.{kind_named}
use Rattle.psi_reply.proofs.reward.reward_at.Given as goal

abbrev pub invariant-loop-place : goal.invariant-loop-place
invariant-loop-place l = kind_named l.name (take l.place l.net.rewards) ≡ None
