-- Invariants of the loops of `Route::pair_behind`.
use Rattle.std.proofs.Common.{◌≡◌, ◌<◌, ℕ, None}
use Rattle.psi_route.specs.Routing.{pair_between}
use Rattle.psi_route.specs.Route.{shape_of}
use Rattle.psi_route.proofs.route.Route.pair_behind.Given as goal

abbrev pub invariant-loop-b : goal.invariant-loop-b
invariant-loop-b l = (k : ℕ) → k < l.b → pair_between (shape_of l.self) l.a k ≡ None
