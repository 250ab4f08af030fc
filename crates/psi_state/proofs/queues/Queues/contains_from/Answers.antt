-- Answers in the proof of `Queues::contains_from`.
use Rattle.std.proofs.Common.{◌≡◌, ◌<◌, length, slice_index, nat_eq, sym, arith}
use Rattle.std.proofs.lemmas.Bool.{eq-eqb}
use Rattle.psi_state.proofs.RepeatsLemmas.{any-at, any-none}
use Rattle.psi_state.proofs.queues.Queues.contains_from.Goals as goal

pub returns-then-get-q : goal.returns-then-get-q
returns-then-get-q c =
    let same : slice_index c.args.self.now c.loop-i.i ≡ c.args.q = omega (arith, c.get.ensures) in
    let within : c.loop-i.i < length c.args.self.now = omega (arith, c.len-i-end.ensures.value) in
    sym (any-at (λ q. nat_eq q c.args.q) c.args.self.now c.args.first c.loop-i.i (omega arith) within
    (eq-eqb (slice_index c.args.self.now c.loop-i.i) c.args.q same))

pub returns : goal.returns
returns c = sym (any-none (λ q. nat_eq q c.args.q) c.args.self.now c.args.first
    (λ i low small. c.loop-i.invariant i low (omega (arith, c.len-i-end.ensures.value))))
