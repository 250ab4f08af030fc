use Rattle.std.proofs.Common.{rules, ℕ, ◌<◌, ◌^◌, length, arith, ap, sym, subst, ◌∙◌, slice_index_or}
use Rattle.psi_event.specs.declared.sides.Side.TheVariants.{Any}
use Rattle.psi_follow_packed.specs.Packed.{packed}
use Rattle.psi_follow_packed.specs.Moves.{guard, mark_of}
use Rattle.psi_follow_packed.proofs.TestingLemmas.{mark_of-lt}
use Rattle.psi_follow_packed.proofs.BuildingLemmas.{same-sided}
use Rattle.psi_follow_packed.proofs.layout.Layout.marks.Goals as goal

pub pack_numbers-requires : goal.pack_numbers-requires
pack_numbers-requires g c =
    let fit = λ (q : ℕ) (small : q < length c.loop-queue.marks).
    subst (λ v. v < 2 ^ c.args.self.now.bits) (sym (c.loop-queue.invariant.each q (omega (arith, c.loop-queue.invariant.long, c.len-queue-end.ensures.value))))
    (mark_of-lt c.args.self.now.bits c.args.below (slice_index_or c.args.sides.now q Any) (omega (arith, c.caps-marks.ensures.valid.least)) c.requires.few) in
    (search rules, (search rules, (omega (arith, c.loop-queue.invariant.long, c.requires.length), fit)))

pub returns-clause-words : goal.returns-clause-words
returns-clause-words g c =
    c.pack_numbers.ensures ∙ ap (packed g.row.K c.args.self.now)
    (same-sided (mark_of (guard c.args.self.now.bits) c.args.below) c.args.sides.now c.loop-queue.marks c.loop-queue.invariant.long
    (λ q small. c.loop-queue.invariant.each q (omega (arith, c.len-queue-end.ensures.value))))
