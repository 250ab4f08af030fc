use Rattle.std.proofs.Common.{◌≡◌, List, length, map, slice_index_or, ap, subst, ◌∙◌, arith}
use Rattle.psi_follow_packed.specs.Moves.{Moving, IsLowered, no_move}
use Rattle.psi_follow_packed.specs.Programs.{Prepared}
use Rattle.psi_follow_packed.specs.Views.{low_word, high_word, moving_by}
use Rattle.psi_follow_packed.proofs.FollowingLemmas.{move-read}
use Rattle.psi_follow_packed.proofs.program.MaskProgram.event.Goals as goal

pub returns-clause-low : goal.returns-clause-low
returns-clause-low g c =
    let p = c.args.self.now in
    let items = c.self.inside.moves.items in
    let moves : map (moving_by {K = g.row.K} low_word) items ≡ p.moves = ap (λ (q : Prepared). q.moves) c.self.view_is in
    move-read p (moving_by low_word) items c.as_slice.result.now c.args.number c.index-as_slice-number.result moves c.as_slice.ensures.value c.index-as_slice-number.is c.requires

pub returns-clause-high : goal.returns-clause-high
returns-clause-high g c =
    let p = c.args.self.now in
    let items = c.self.inside.moves.items in
    let moves : map (moving_by {K = g.row.K} high_word) items ≡ p.moves = c.self.invariant.same ∙ ap (λ (q : Prepared). q.moves) c.self.view_is in
    move-read p (moving_by high_word) items c.as_slice.result.now c.args.number c.index-as_slice-number.result moves c.as_slice.ensures.value c.index-as_slice-number.is c.requires

pub returns-clause-lowered : goal.returns-clause-lowered
returns-clause-lowered g c =
    let moves = ap (λ (q : Prepared). q.moves) c.self.view_is in
    subst (λ (ms : List Moving). IsLowered g.row.K (slice_index_or ms c.args.number no_move)) moves (c.self.invariant.lowered c.args.number (omega (arith, c.requires, ap (λ (ms : List Moving). length ms) moves)))
