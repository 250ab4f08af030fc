use Rattle.std.proofs.Common.{◌+◌, ◌-◌, ◌%◌, ◌^◌, List, ℕ, slice_index, ap, ap₂, sym, ◌∙◌}
use Rattle.psi_follow_packed.proofs.LoweringLemmas.{lowered-is}
use Rattle.psi_follow_packed.proofs.moves.PackedEvent.of.Goals as goal

pub returns-clause-lowered : goal.returns-clause-lowered
returns-clause-lowered g c =
    let wanted = c.of.ensures.masks.wanted in
    lowered-is g.row.K c.args.layout.now c.args.pieces.now.first.sides _ c.wanted-wanted.ensures.valid c.of.ensures.masks.guards wanted
    (λ w small.
    ap (λ (l : List ℕ). slice_index l w) c.twice-2.ensures.low ∙ c.difference.ensures.each w small
    ∙ ap₂ (λ (a b : List ℕ). (slice_index a w + (2 ^ 64 - slice_index b w)) % 2 ^ 64) (sym c.twice.ensures.low) (c.wanted-wanted.ensures.words ∙ sym wanted))
