-- Invariants of the loops of `Route::sweep`.
use Rattle.std.specs.Bool.{MatchBool}
use Rattle.psi_route.specs.Routing.{routing}
use Rattle.psi_route.specs.Route.{shape_of}
use Rattle.psi_route.specs.Ends.{AreTargetEnds}
use Rattle.psi_route.specs.Coming.{Comes, Misses}
use Rattle.psi_route.proofs.route.Route.sweep.Given as goal

abbrev pub invariant-loop-j : goal.invariant-loop-j
invariant-loop-j l =
    record {
      ends : AreTargetEnds (routing (shape_of l.self)) l.fn.b.lo l.fn.b.hi l.b.lo l.b.hi l.j;
      low : MatchBool l.always (Comes (routing (shape_of l.self)) l.fn.b.lo l.j) (Misses (routing (shape_of l.self)) l.fn.b.lo l.j);
      high : Comes (routing (shape_of l.self)) l.fn.b.hi l.j;
    }
