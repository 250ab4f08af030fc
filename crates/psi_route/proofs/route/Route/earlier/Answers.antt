-- Answers in the proof of `Route::earlier`.
use Rattle.std.proofs.Common.{ℕ, Option, MatchOption, subst}
use Rattle.psi_route.specs.Falls.{NoFall, IsFall}
use Rattle.psi_route.specs.Route.{shape_of}
use Rattle.psi_route.proofs.FallingLemmas.{falls-none}
use Rattle.psi_route.proofs.route.Route.earlier.Goals as goal

pub returns-in-None-default : goal.returns-in-None-default
returns-in-None-default c =
    falls-none (shape_of c.args.self.now) c.args.a c.args.b c.args.w c.args.past c.args.found c.requires.first c.requires.second c.requires.found c.requires.past
    (subst (λ (o : Option ℕ). MatchOption o (NoFall (shape_of c.args.self.now) c.args.a c.args.b c.args.w c.args.past) (λ v. IsFall (shape_of c.args.self.now) c.args.a c.args.b c.args.w v))
    c.in-None-default.is-0 c.requires.fall)
