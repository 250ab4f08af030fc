-- Answers in the proof of `Route::broken`.
use Rattle.std.proofs.Common.{ℕ, List, Some, sym, ◌∙◌, ap}
use Rattle.psi_route.specs.Route.{shape_of}
use Rattle.psi_route.proofs.UpsetLemmas.{upset-several, upset-single}
use Rattle.psi_route.proofs.SearchingLemmas.{plain-none}
use Rattle.psi_route.proofs.route.Route.broken.Goals as goal

pub returns-then-self-ge2 : goal.returns-then-self-ge2
returns-then-self-ge2 c =
    ap (λ (p : List ℕ × List ℕ). Some p) c.batch_pair.ensures ∙ sym (upset-several (shape_of c.args.self.now) c.if-self-ge2.true)

pub returns-then-is_plain : goal.returns-then-is_plain
returns-then-is_plain c =
    sym (upset-single (shape_of c.args.self.now) c.if-self-ge2.false ∙ plain-none (shape_of c.args.self.now) (c.is_plain.ensures.0 c.if-is_plain.true))

pub returns : goal.returns
returns c = c.first_pair.ensures ∙ sym (upset-single (shape_of c.args.self.now) c.if-self-ge2.false)
