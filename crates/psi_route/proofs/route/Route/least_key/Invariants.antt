-- Invariants of the loops of `Route::least_key`.
use Rattle.psi_route.specs.Routing.{routing}
use Rattle.psi_route.specs.Route.{shape_of}
use Rattle.psi_route.specs.Leader.{IsLeader}
use Rattle.psi_route.proofs.route.Route.least_key.Given as goal

abbrev pub invariant-loop-i : goal.invariant-loop-i
invariant-loop-i l = IsLeader (routing (shape_of l.self)) l.x l.i l.leader
