-- Answers in the proof of `Guarded::allows`.
use Rattle.std.proofs.Common.{sym, arith, below_more, rules}
use Rattle.psi_guard.proofs.StepsLemmas.{all_allow-from, all_allow-out}
use Rattle.psi_guard.proofs.guarded.Guarded.allows.Goals as goal

pub loop-i-init : goal.loop-i-init
loop-i-init c = λ k small. absurd (omega arith)

pub returns-then-held-part : goal.returns-then-held-part
returns-then-held-part c = search (rules, all_allow-out)

pub loop-i-preserved : goal.loop-i-preserved
loop-i-preserved c = search (rules, below_more)

pub returns : goal.returns
returns c = sym (all_allow-from c.args.self.now.parts c.args.x.now (λ i small. c.loop-i.invariant i (omega arith)))
