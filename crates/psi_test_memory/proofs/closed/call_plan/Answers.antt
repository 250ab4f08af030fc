-- Answers in the proof of `call_plan`.
use Rattle.std.proofs.Common.{◌≤◌, ◌^◌, ap, ◌∙◌, sym, subst}
use Rattle.psi_closed.specs.Planned.{ClosedNetwork}
use Rattle.psi_rate.proofs.PowersLemmas.{pow-order}
use Rattle.psi_test_memory.proofs.closed.call_plan.Goals as goal

pub first_answer-first-requires-clause-allowed : goal.first_answer-first-requires-clause-allowed
first_answer-first-requires-clause-allowed c exponent order =
    subst (λ n. 2 ^ exponent ≤ 2 ^ n) (sym (ap (λ (n : ClosedNetwork). n.limit) c.sample-outcome.ensures.network ∙ c.requires)) (pow-order exponent 6 order)
