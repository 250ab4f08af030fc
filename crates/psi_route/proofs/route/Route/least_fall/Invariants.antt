-- Invariants of the loops of `Route::least_fall`.
use Rattle.psi_route.specs.Falls.{AreFalls}
use Rattle.psi_route.specs.Route.{shape_of}
use Rattle.psi_route.proofs.route.Route.least_fall.Given as goal

abbrev pub invariant-loop-w : goal.invariant-loop-w
invariant-loop-w l = AreFalls (shape_of l.self) l.a l.b l.w l.found
