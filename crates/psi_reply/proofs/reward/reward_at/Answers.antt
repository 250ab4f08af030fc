-- Answers in the proof of `reward::reward_at`.
use Rattle.std.proofs.Common.{sym}
use Rattle.psi_reply.proofs.CouplingLemmas.{named-found, named-more}
use Rattle.psi_reply.proofs.reward.reward_at.Goals as goal

pub returns-then-eq-clause-found : goal.returns-then-eq-clause-found
returns-then-eq-clause-found c =
    named-found c.args.name.now c.args.net.now.rewards c.loop-place.place c.reward_name.result _ c.loop-place.invariant c.reward_name.ensures c.reward.ensures.kind
    (rw (c.bytes.ensures.value, c.as_bytes.ensures.value) at (sym c.if-eq.ensures))

pub loop-place-preserved : goal.loop-place-preserved
loop-place-preserved c =
    named-more c.args.name.now c.args.net.now.rewards c.loop-place.place c.reward_name.result c.loop-place.invariant c.reward_name.ensures
    (rw (c.bytes.ensures.value, c.as_bytes.ensures.value) at (sym c.if-eq.ensures))
