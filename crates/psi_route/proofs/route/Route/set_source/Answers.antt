-- Answers in the proof of `Route::set_source`.
use Rattle.std.proofs.Common.{◌≡◌, ◌-◌, ◌<◌, ◌≤◌, length, if◌then◌else◌, ap, sym, subst, arith, Option}
use Rattle.psi_route.specs.Routing.{routing, source_queue}
use Rattle.psi_route.specs.Route.{shape_of}
use Rattle.psi_route.specs.Coming.{is_gone}
use Rattle.psi_route.specs.declared.parts.Source.{Source}
use Rattle.psi_route.proofs.LeavingLemmas.{without-ordered}
use Rattle.psi_route.proofs.route.Route.set_source.Goals as goal

pub set-requires-clause-ordered : goal.set-requires-clause-ordered
set-requires-clause-ordered c =
    let s = shape_of c.args.self.now in
    let r = routing s in
    let q = c.in-Some.source.queue in
    let at : r.source ≡ q = ap (λ (o : Option Source). source_queue o (length s.caps)) c.in-Some.is in
    let named : q < length s.caps = c.args.self.now.valid.source c.in-Some.source c.in-Some.is in
    let order =
    without-ordered r c.args.b.now.lo c.args.b.now.hi (is_gone r c.args.coming.always c.args.left.always) (is_gone r c.args.coming.sometimes c.args.left.sometimes) q
    c.least.result c.greatest.result c.requires.ordered at (omega (arith, c.requires.length)) c.least.ensures.value c.greatest.ensures.value in
    subst (λ k. c.least.result - k ≤ c.greatest.result - c.gone-in-Some.result) (sym c.gone.ensures.value)
    (subst (λ k. c.least.result - (if is_gone r c.args.coming.always c.args.left.always then 1 else 0) ≤ c.greatest.result - k) (sym c.gone-in-Some.ensures.value) order)
