-- Answers in the proof of `Keyed::advance`.
use Rattle.std.proofs.Common.{◌≡◌, drop, subst, arith}
use Rattle.psi_follow_keyed.specs.Keyed.{Follows}
use Rattle.psi_follow_keyed.proofs.keyed.Keyed.advance.Goals as goal

pub returns-clause-low : goal.returns-clause-low
returns-clause-low c =
    let none : c.loop-place.place ≡ 0 = omega arith in
    subst (λ n. Follows c.args.self.now (drop n c.args.numbers.now) c.args.low.now.state c.loop-place.low.state) none c.loop-place.invariant.low

pub returns-clause-high : goal.returns-clause-high
returns-clause-high c =
    let none : c.loop-place.place ≡ 0 = omega arith in
    subst (λ n. Follows c.args.self.now (drop n c.args.numbers.now) c.args.high.now.state c.loop-place.high.state) none c.loop-place.invariant.high
