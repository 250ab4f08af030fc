-- Answers in the proof of `Route::join_least`.
use Rattle.std.proofs.Common.{Option, ℕ, ap, ◌∙◌}
use Rattle.psi_route.specs.Routing.{routing, moved}
use Rattle.psi_route.specs.Route.{shape_of}
use Rattle.psi_route.proofs.ChoosingLemmas.{chosen-place, chosen-room}
use Rattle.psi_route.proofs.route.Route.join_least.Goals as goal

pub join-requires-clause-place : goal.join-requires-clause-place
join-requires-clause-place c = chosen-place (shape_of c.args.self.now) c.args.x.now c.least_key-chosen.result c.least_key-chosen.ensures

pub join-requires-clause-room : goal.join-requires-clause-room
join-requires-clause-room c = chosen-room (shape_of c.args.self.now) c.args.x.now c.least_key-chosen.result c.least_key-chosen.ensures

pub returns : goal.returns
returns c = c.join.ensures ∙ ap (λ (o : Option ℕ). moved (routing (shape_of c.args.self.now)) c.args.x.now o) c.least_key-chosen.ensures
