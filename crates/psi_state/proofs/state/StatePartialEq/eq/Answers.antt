-- Answers in the proof of `StatePartialEq::eq`.
use Rattle.std.proofs.Common.{arith}
use Rattle.psi_state.proofs.QuadsLemmas.{eq-from_quads}
use Rattle.psi_state.proofs.state.StatePartialEq.eq.Goals as goal

pub returns-then-len-le8 : goal.returns-then-len-le8
returns-then-len-le8 c =
    eq-from_quads c.args.self.now c.args.other.now 2 c.has_quads_of.result c.len.ensures.vector c.len-2.ensures.vector
    (omega (arith, c.len.ensures.value, c.len-2.ensures.value)) (omega (arith, c.len-3.ensures.value)) c.has_quads_of.ensures

pub returns : goal.returns
returns c =
    let few = c.len.ensures.vector.few in
    eq-from_quads c.args.self.now c.args.other.now 8 c.has_quads_of-2.result c.len.ensures.vector c.len-2.ensures.vector
    (omega (arith, c.len.ensures.value, c.len-2.ensures.value)) (omega arith) c.has_quads_of-2.ensures
