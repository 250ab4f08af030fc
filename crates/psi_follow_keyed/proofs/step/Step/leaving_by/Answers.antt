-- Answers in the proof of `Step::leaving_by`.
use Rattle.std.proofs.Common.{◌≡◌, ℕ, List, length, Some, None, ap, sym, ◌∙◌, arith}
use Rattle.psi_route.specs.Route.{shape_of}
use Rattle.psi_follow_keyed.proofs.RoutesLemmas.{routed-still, routed-leaves}
use Rattle.psi_follow_keyed.proofs.step.Step.leaving_by.Goals as goal

pub returns-in-None : goal.returns-in-None
returns-in-None c =
    let s = shape_of c.args.route.now in
    let same : length c.targets.result ≡ length s.targets = ap (λ (xs : List ℕ). length xs) c.targets.ensures.value in
    let empty : length s.targets ≡ 0 = omega arith in
    let none : s.source ≡ None = sym c.source.ensures ∙ c.in-None.is in
    record { valid = tt; does = λ x below. routed-still s x empty none below }

pub returns-in-Some : goal.returns-in-Some
returns-in-Some c =
    let s = shape_of c.args.route.now in
    let same : length c.targets.result ≡ length s.targets = ap (λ (xs : List ℕ). length xs) c.targets.ensures.value in
    let empty : length s.targets ≡ 0 = omega arith in
    let is : s.source ≡ Some c.in-Some.source = sym c.source.ensures ∙ c.in-Some.is in
    let valid = c.targets.ensures.valid in
    record { valid = (valid.source c.in-Some.source is, valid.least c.in-Some.source is, c.place_of.ensures); does = λ x below. routed-leaves s c.in-Some.source x empty is }
