-- Answers in the proof of `is_above_a_target`.
use Rattle.std.proofs.Common.{slice_index, nat_lt, sym, arith}
use Rattle.psi_state.proofs.RepeatsLemmas.{any-none}
use Rattle.psi_route.proofs.judging.is_above_a_target.Goals as goal

pub returns : goal.returns
returns c = sym (any-none (λ q. nat_lt (slice_index c.args.caps.now q) c.args.size) c.args.targets.now 0
    (λ i low small. c.loop-i.invariant i (omega (arith, c.len-i-end.ensures.value))))
