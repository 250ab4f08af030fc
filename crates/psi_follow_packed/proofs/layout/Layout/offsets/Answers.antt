use Rattle.std.proofs.Common.{rules, ℕ, ◌-◌, ◌<◌, ◌^◌, length, slice_index, arith, ap, pow_pos, ◌∙◌}
use Rattle.psi_follow_packed.specs.Packed.{packed}
use Rattle.psi_follow_packed.specs.Moves.{guard}
use Rattle.psi_follow_packed.proofs.WordsLemmas.{below-guard, twice-guard}
use Rattle.psi_follow_packed.proofs.BuildingLemmas.{same-mapped}
use Rattle.psi_follow_packed.proofs.layout.Layout.offsets.Goals as goal

pub overflow_sub-guard : goal.overflow_sub-guard
overflow_sub-guard g c =
    omega (arith, c.get.ensures, c.guard-guard.ensures.value, below-guard g.row.K c.args.self.now c.args.bounds.now c.guard-guard.ensures.valid c.requires c.loop-queue.queue)

pub pack_numbers-requires : goal.pack_numbers-requires
pack_numbers-requires g c =
    let some = twice-guard c.args.self.now.bits (omega (arith, c.guard-guard.ensures.valid.least)) in
    let fit : (q : ℕ) → q < length c.loop-queue.offsets → slice_index c.loop-queue.offsets q < 2 ^ c.args.self.now.bits = λ q small.
    omega (arith, c.loop-queue.invariant.each q (omega (arith, c.loop-queue.invariant.long, c.len-queue-end.ensures.value)), some, pow_pos (c.args.self.now.bits - 1)) in
    (search rules, (search rules, (omega (arith, c.loop-queue.invariant.long, c.requires.same_length), fit)))

pub returns : goal.returns
returns g c =
    c.pack_numbers.ensures ∙ ap (packed g.row.K c.args.self.now)
    (same-mapped (λ v. guard c.args.self.now.bits - v) c.args.bounds.now c.loop-queue.offsets c.loop-queue.invariant.long
    (λ q small. c.loop-queue.invariant.each q (omega (arith, c.len-queue-end.ensures.value))))
