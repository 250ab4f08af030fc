-- Invariants of the loops of `Route::first_pair`.
use Rattle.std.proofs.Common.{◌≡◌, ◌<◌, ℕ, None}
use Rattle.psi_route.specs.Routing.{pair_behind}
use Rattle.psi_route.specs.Route.{shape_of}
use Rattle.psi_route.proofs.route.Route.first_pair.Given as goal

abbrev pub invariant-loop-a : goal.invariant-loop-a
invariant-loop-a l = (k : ℕ) → k < l.a → pair_behind (shape_of l.self) k ≡ None
