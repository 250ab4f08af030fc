-- Answers in the proof of `StateOrd::cmp`.
use Rattle.std.proofs.Common.{sym, ap₂, ◌∙◌, arith}
use Rattle.std.specs.Ordering.{nat_cmp}
use Rattle.psi_state.proofs.QuadsLemmas.{same-from_quads}
use Rattle.psi_state.proofs.OrderLemmas.{cmp-same, cmp-from_quads}
use Rattle.psi_state.proofs.state.StateOrd.cmp.Goals as goal

pub returns-then-own-others : goal.returns-then-own-others
returns-then-own-others c =
    let place = c.first_apart-place in
    c.cmp-then-own-others.ensures ∙ (ap₂ (λ a b. nat_cmp a b) c.number_at.ensures c.number_at-then-own-others.ensures
    ∙ cmp-from_quads c.args.self.now c.args.other.now c.loop-i.i place.result c.quad-own.result c.quad-others.result
    c.len.ensures.vector.each c.len-2.ensures.vector.each (omega (arith, c.len.ensures.value, c.len-2.ensures.value)) c.loop-i.invariant
    c.quad-own.ensures c.quad-others.ensures place.ensures.place place.ensures.before place.ensures.apart)

pub returns : goal.returns
returns c =
    let few = c.len.ensures.vector.few in
    let all = c.loop-i.invariant in
    sym (cmp-same c.args.self.now c.args.other.now
    (same-from_quads c.args.self.now c.args.other.now 8 c.len.ensures.vector c.len-2.ensures.vector (omega (arith, c.len.ensures.value, c.len-2.ensures.value))
    (omega arith) (λ k small. all k (omega arith))))
