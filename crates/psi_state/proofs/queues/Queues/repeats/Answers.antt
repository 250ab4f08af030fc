-- Answers in the proof of `Queues::repeats`.
use Rattle.std.proofs.Common.{◌≡◌, ◌<◌, ◌+◌, suc, true, length, drop, slice_index, nat_eq, sym, ◌∙◌, ap, arith}
use Rattle.std.specs.List.{list_any}
use Rattle.psi_state.proofs.RepeatsLemmas.{repeats-at, repeats-none}
use Rattle.psi_state.proofs.queues.Queues.repeats.Goals as goal

pub returns-then-contains_from : goal.returns-then-contains_from
returns-then-contains_from c =
    let within : c.loop-i.i < length c.args.self.now = omega (arith, c.len-i-end.ensures.value) in
    let next : suc c.loop-i.i ≡ c.loop-i.i + 1 = omega arith in
    let found : list_any (λ p. nat_eq p (slice_index c.args.self.now c.loop-i.i)) (drop (suc c.loop-i.i) c.args.self.now) ≡ true =
    ap (λ n. list_any (λ p. nat_eq p (slice_index c.args.self.now c.loop-i.i)) (drop n c.args.self.now)) next
    ∙ (ap (λ n. list_any (λ p. nat_eq p n) (drop (c.loop-i.i + 1) c.args.self.now)) (sym c.get.ensures)
    ∙ (sym c.contains_from.ensures ∙ c.if-contains_from.true)) in
    sym (repeats-at c.args.self.now c.loop-i.i within found)

pub returns : goal.returns
returns c = sym (repeats-none c.args.self.now (λ i small. c.loop-i.invariant i (omega (arith, c.len-i-end.ensures.value))))
