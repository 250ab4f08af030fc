-- Answers in the proof of `Route::pair_between`.
use Rattle.std.proofs.Common.{ℕ, List, Some, slice_index, refl, ap, ◌∙◌, arith}
use Rattle.psi_route.specs.Route.{shape_of}
use Rattle.psi_route.proofs.FallingLemmas.{between-none, between-some}
use Rattle.psi_route.proofs.route.Route.pair_between.Goals as goal

pub returns-in-None : goal.returns-in-None
returns-in-None c =
    let s = shape_of c.args.self.now in
    between-none s c.args.a c.args.b (slice_index s.caps (slice_index s.targets c.args.b))
    (rw c.in-None.is at c.least_fall-found.ensures) (omega arith)

pub returns-in-Some : goal.returns-in-Some
returns-in-Some c =
    let s = shape_of c.args.self.now in
    ap (λ (p : List ℕ × List ℕ). Some p) c.pair_of.ensures
    ∙ between-some s c.args.a c.args.b (slice_index s.caps (slice_index s.targets c.args.b)) (c.in-Some.v, c.in-Some.w) c.requires.first c.requires.second
    (rw c.in-Some.is at c.least_fall-found.ensures) refl
