use Rattle.std.proofs.Common.{rules, sym, subst, ◌∙◌}
use Rattle.psi_follow_packed.specs.Moves.{Moving, ChangesNothing, IsLowered}
use Rattle.psi_follow_packed.specs.Views.{low_words, high_words}
use Rattle.psi_follow_packed.proofs.SteppingLemmas.{pairs-follow}
use Rattle.psi_follow_packed.proofs.program.MaskProgram.step.Goals as goal

pub advance_all-requires : goal.advance_all-requires
advance_all-requires g c =
    let alone = c.is_of_one_piece.ensures.0 c.if-is_of_one_piece.true in
    let same = c.event-event.ensures.low ∙ sym c.event-event.ensures.high in (
      search rules,
      (
        search rules,
        (
          λ one. record { lowered = subst (λ (n : Moving). IsLowered g.row.K n) (sym c.event-event.ensures.low) c.event-event.ensures.lowered; alone = alone },
          λ one. record {
            lowered = subst (λ (n : Moving). IsLowered g.row.K n) (sym c.event-event.ensures.high) c.event-event.ensures.lowered;
            alone = subst (λ (n : Moving). ChangesNothing g.row.K n.second) same alone;
          },
        ),
      ),
    )

pub returns-then-is_of_one_piece : goal.returns-then-is_of_one_piece
returns-then-is_of_one_piece g c = record {
  count = c.advance_all.ensures.count;
  low = pairs-follow c.args.self.now c.args.number low_words _ c.args.list.now c.advance_all.new.list c.requires.number c.event-event.ensures.low c.advance_all.ensures.low;
  high = pairs-follow c.args.self.now c.args.number high_words _ c.args.list.now c.advance_all.new.list c.requires.number c.event-event.ensures.high c.advance_all.ensures.high;
}

pub returns-else-is_of_one_piece : goal.returns-else-is_of_one_piece
returns-else-is_of_one_piece g c = record {
  count = c.advance_all-else-is_of_one_piece.ensures.count;
  low = pairs-follow c.args.self.now c.args.number low_words _ c.args.list.now c.advance_all-else-is_of_one_piece.new.list c.requires.number c.event-event.ensures.low c.advance_all-else-is_of_one_piece.ensures.low;
  high = pairs-follow c.args.self.now c.args.number high_words _ c.args.list.now c.advance_all-else-is_of_one_piece.new.list c.requires.number c.event-event.ensures.high c.advance_all-else-is_of_one_piece.ensures.high;
}
