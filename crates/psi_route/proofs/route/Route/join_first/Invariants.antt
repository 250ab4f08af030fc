-- Invariants of the loops of `Route::join_first`.
use Rattle.std.proofs.Common.{◌≡◌}
use Rattle.psi_route.specs.Routing.{routing}
use Rattle.psi_route.specs.Acting.{NoRoom}
use Rattle.psi_route.specs.Route.{shape_of}
use Rattle.psi_route.proofs.route.Route.join_first.Given as goal

abbrev pub invariant-loop-i : goal.invariant-loop-i
invariant-loop-i l = record { same : l.x ≡ l.fn.x; before : NoRoom (routing (shape_of l.self)) l.x l.i }
