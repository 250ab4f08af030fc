-- Answers in the proof of `Route::pair_behind`.
use Rattle.std.proofs.Common.{length, arith}
use Rattle.psi_route.specs.Routing.{pair_between, pair_behind}
use Rattle.psi_route.specs.Route.{shape_of}
use Rattle.psi_route.proofs.SearchingLemmas.{search-found, search-none}
use Rattle.psi_route.proofs.route.Route.pair_behind.Goals as goal

pub returns-then-is_some : goal.returns-then-is_some
unfolding pair_behind
returns-then-is_some c =
    search-found (λ b. pair_between (shape_of c.args.self.now) c.args.a b) (length c.args.self.now.targets) c.loop-b.b c.pair_between-pair.result c.is_some.result
    (omega (arith, c.places-b-end.ensures.value)) c.pair_between-pair.ensures c.is_some.ensures c.if-is_some.true c.loop-b.invariant

pub returns : goal.returns
unfolding pair_behind
returns c =
    search-none (λ b. pair_between (shape_of c.args.self.now) c.args.a b) (length c.args.self.now.targets) c.loop-b.b
    (omega (arith, c.places-b-end.ensures.value)) c.loop-b.invariant
