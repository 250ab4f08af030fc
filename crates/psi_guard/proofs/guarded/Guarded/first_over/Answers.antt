-- Answers in the proof of `Guarded::first_over`.
use Rattle.std.proofs.Common.{◌<◌, ◌≤◌, length, sym, ◌∙◌, arith, below_more}
use Rattle.psi_guard.proofs.StepsLemmas.{queues-found, queues-none}
use Rattle.psi_guard.proofs.guarded.Guarded.first_over.Goals as goal

pub loop-p-init : goal.loop-p-init
loop-p-init g c = λ f agrees k small. absurd (omega arith)

pub returns-in-Some : goal.returns-in-Some
returns-in-Some g c = λ f agrees.
    (let caps = c.args.self.now.caps in
    let place : c.loop-p.p < length caps = omega (arith, c.len-p-end.ensures.value) in
    let told = agrees c.loop-p.p c.test.result place c.test.ensures in
    sym (queues-found caps f c.loop-p.p c.in-Some.pair place (sym told ∙ c.in-Some.is) (c.loop-p.invariant f agrees)))

pub loop-p-preserved : goal.loop-p-preserved
loop-p-preserved g c = λ f agrees.
    (let place : c.loop-p.p < length c.args.self.now.caps = omega (arith, c.len-p-end.ensures.value) in
    let told = agrees c.loop-p.p c.test.result place c.test.ensures in
    below_more _ _ (c.loop-p.invariant f agrees) (sym told ∙ c.in_default.is))

pub returns : goal.returns
returns g c = λ f agrees.
    (let caps = c.args.self.now.caps in
    let over : length caps ≤ c.loop-p.p = omega (arith, c.len-p-end.ensures.value) in
    sym (queues-none caps f c.loop-p.p over (c.loop-p.invariant f agrees)))
