-- Answers in the proof of `Route::least_key`.
use Rattle.std.proofs.Common.{arith}
use Rattle.psi_route.specs.Route.{shape_of}
use Rattle.psi_route.proofs.ChoosingLemmas.{leader-best}
use Rattle.psi_route.proofs.route.Route.least_key.Goals as goal

pub returns : goal.returns
returns c =
    leader-best (shape_of c.args.self.now) c.args.x.now c.loop-i.i c.loop-i.leader c.chosen.result (omega (arith, c.places-i-end.ensures.value))
    c.chosen.ensures.found c.chosen.ensures.none c.loop-i.invariant
