-- Answers in the proof of `follow`.
use Rattle.std.proofs.Common.{◌≡◌, ◌∙◌, subst, arith}
use Rattle.psi_rate.specs.Composition.{system_functions}
use Rattle.psi_exact.specs.Inner.RankTableKept.{IsFollowed}
use Rattle.psi_exact.proofs.following.follow.Goals as goal

pub loop-place-preserved : goal.loop-place-preserved
loop-place-preserved g c = record { within = omega arith; followed = c.step-least.ensures.followed; words = c.step-least.ensures.words ∙ c.loop-place.invariant.words }

pub returns-clause-followed : goal.returns-clause-followed
returns-clause-followed g c =
    let system = c.args.learned.now.system.now in
    let end : c.loop-place.place ≡ c.args.to = omega arith in
    subst (λ n. IsFollowed (system_functions g.E.EventLaw.function system (g.P.Past.words c.loop-place.past)) system.caps n c.loop-place.table c.loop-place.least) end
    c.loop-place.invariant.followed
