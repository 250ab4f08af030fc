-- Answers in the proof of `Route::move_customers`.
use Rattle.std.proofs.Common.{◌∙◌, refl}
use Rattle.psi_route.specs.Routing.{routing, best}
use Rattle.psi_route.specs.Route.{shape_of}
use Rattle.psi_route.proofs.ChoosingLemmas.{routed-serves, routed-idle}
use Rattle.psi_route.proofs.route.Route.move_customers.Goals as goal

pub returns-then-not-serves : goal.returns-then-not-serves
returns-then-not-serves c = routed-idle (shape_of c.args.self.now) c.args.x.now c.serves.result c.serves.ensures c.if-not-serves.true

pub returns-then-is_plain : goal.returns-then-is_plain
returns-then-is_plain c =
    c.join_first.ensures
    ∙ routed-serves (shape_of c.args.self.now) c.args.x.now (best (routing (shape_of c.args.self.now)) c.args.x.now) c.serves.result c.serves.ensures c.if-not-serves.false refl

pub returns-else-is_plain : goal.returns-else-is_plain
returns-else-is_plain c =
    c.join_least.ensures
    ∙ routed-serves (shape_of c.args.self.now) c.args.x.now (best (routing (shape_of c.args.self.now)) c.args.x.now) c.serves.result c.serves.ensures c.if-not-serves.false refl
