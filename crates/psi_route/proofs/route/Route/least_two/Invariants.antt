-- Invariants of the loops of `Route::least_two`.
use Rattle.psi_route.specs.Offers.{AreLeastTwo}
use Rattle.psi_route.proofs.route.Route.least_two.Given as goal

abbrev pub invariant-loop-i : goal.invariant-loop-i
invariant-loop-i g l = AreLeastTwo (goal.F-post g l.offer) l.i l.found.first l.found.second
