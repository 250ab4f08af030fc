-- Invariants of the loops of `Route::weigh`.
use Rattle.psi_route.specs.Routing.{routing}
use Rattle.psi_route.specs.Route.{shape_of}
use Rattle.psi_route.specs.Ends.{AreTargetEnds}
use Rattle.psi_route.proofs.route.Route.weigh.Given as goal

abbrev pub invariant-loop-j : goal.invariant-loop-j
invariant-loop-j l = AreTargetEnds (routing (shape_of l.self)) l.fn.b.lo l.fn.b.hi l.b.lo l.b.hi l.j
