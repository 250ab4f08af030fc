-- Answers in the proof of `has_arc`.
use Rattle.std.proofs.Common.{◌≤◌, ◌-◌, arith}
use Rattle.std.proofs.lemmas.Bool.{leb-true}
use Rattle.psi_closed.proofs.ArcsLemmas.{arc}
use Rattle.psi_closed.proofs.arcs.has_arc.Goals as goal

pub returns-else-value-total : goal.returns-else-value-total
returns-else-value-total c = (
  λ within. (let small : c.args.value ≤ c.total.result - c.args.before = leb-true c.args.value (c.total.result - c.args.before) within in absurd (omega arith)),
  λ member. (let range = c.total.ensures.ranged (arc c.args.level c.args.before c.args.value) member in
      let sum = range.sum in absurd (omega arith)),
)
