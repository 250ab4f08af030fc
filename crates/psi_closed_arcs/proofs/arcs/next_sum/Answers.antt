-- Answers in the proof of `next_sum`.
use Rattle.std.proofs.Common.{sym, ◌∙◌, arith}
use Rattle.psi_closed_arcs.proofs.arcs.next_sum.Goals as goal

pub returns-then-holds : goal.returns-then-holds
returns-then-holds c = (c.loop-sum.auto.sum, (let less = c.loop-sum-test.true in omega arith, (sym c.holds.ensures ∙ c.if-holds.true, c.loop-sum.invariant)))

pub returns : goal.returns
returns c t low high given = (let past = c.loop-sum-test.false in c.loop-sum.invariant t low (omega arith) given)
