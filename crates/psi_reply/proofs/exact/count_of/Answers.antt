-- Answers in the proof of `exact::count_of`.
use Rattle.std.proofs.Common.{◌<◌, ◌≤◌, length, arith}
use Rattle.psi_state.specs.State.{all_states}
use Rattle.psi_net_model.specs.Network.{caps_of}
use Rattle.psi_reply.specs.Exact.{state_count}
use Rattle.psi_reply.proofs.exact.count_of.Goals as goal

pub unreachable-requires : goal.unreachable-requires
unfolding state_count
unreachable-requires c =
    let few : length (all_states (caps_of c.args.net.now)) ≤ 65536 = c.requires in
    let many : 65536 < length (all_states (caps_of c.args.net.now)) = rw (c.whole.ensures, c.caps-caps.ensures.value, c.system.ensures.caps) at c.in-None.ensures in
    omega arith

pub returns : goal.returns
unfolding state_count
returns c = rw (c.whole.ensures, c.caps-caps.ensures.value, c.system.ensures.caps) at c.in-Some.ensures.0
