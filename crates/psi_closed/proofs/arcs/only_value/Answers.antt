-- Answers in the proof of `only_value`.
use Rattle.psi_closed.proofs.ArcsLemmas.{arc}
use Rattle.psi_closed.proofs.StatesLemmas.{first-only}
use Rattle.psi_closed.proofs.arcs.only_value.Goals as goal

pub returns-else-other-clause-value : goal.returns-else-other-clause-value
returns-else-other-clause-value c =
    first-only c.args.arcs.now.arcs c.args.level c.args.before c.in_ok-value.value c.in_ok-value.other c.if-other.false c.in_ok-value.ensures.value

pub returns-else-other-clause-sum : goal.returns-else-other-clause-sum
returns-else-other-clause-sum c = (c.in_ok-value.ensures.sized.ranged (arc c.args.level c.args.before c.in_ok-value.value) c.in_ok-value.ensures.value.there).sum

pub returns-in_err-value-clause-value : goal.returns-in_err-value-clause-value
returns-in_err-value-clause-value c = absurd (c.in_err-value.ensures.value c.requires.some.own c.requires.some.there)
