-- Answers in the proof of `Board::of_route`.
use Rattle.std.proofs.Common.{◌≡◌, length, Option, None, IfSome, sym, subst, ◌∙◌, arith}
use Rattle.psi_route.specs.Route.{shape_of}
use Rattle.psi_follow_keyed.specs.RowsKept.{AreRowsOf}
use Rattle.psi_follow_keyed.specs.declared.filling.Rows.{Rows}
use Rattle.psi_follow_keyed.proofs.RoutesLemmas.{board-for, none-from}
use Rattle.psi_follow_keyed.proofs.board.Board.of_route.Goals as goal

pub returns : goal.returns
returns c =
    let s = shape_of c.args.route.now in
    let one : s.size ≡ 1 = omega (arith, c.size.ensures, c.if-size-ne1.false) in
    let none : s.source ≡ None = sym c.source.ensures ∙ none-from c.source.result c.if-is_some.ensures in
    let rows : AreRowsOf s (length s.targets) c.in-Some.rows.bases c.in-Some.rows.entries.items =
    subst (λ (o : Option Rows). IfSome o (λ rows. AreRowsOf s (length s.targets) rows.bases rows.entries.items)) c.in-Some.is c.in_ok-rows.ensures in
    board-for s c.caps.result c.targets.result c.in-Some.rows.bases c.in-Some.rows.entries.items c.targets.ensures.valid none one rows
    c.caps.ensures.value c.targets.ensures.value
