-- Invariants of the loops of `Rows::of`.
use Rattle.std.proofs.Common.{◌≡◌, length}
use Rattle.psi_route.specs.Route.{shape_of}
use Rattle.psi_follow_keyed.specs.RowsKept.{AreRowsOf}
use Rattle.psi_follow_keyed.proofs.filling.Rows.of.Given as goal

abbrev pub invariant-loop-place : goal.invariant-loop-place
invariant-loop-place l = record {
  count : length l.bases ≡ 32;
  rows : AreRowsOf (shape_of l.route) l.place l.bases l.entries.items;
}
