-- Answers in the proof of `refusal_of`.
use Rattle.std.proofs.Common.{sym, ap, ◌∙◌}
use Rattle.psi_event.specs.Choice.{first_or}
use Rattle.psi_kinds.specs.Refusals.{refusal_of, refusal_of_parts}
use Rattle.psi_kinds.proofs.AcceptingLemmas.{refusal-parts}
use Rattle.psi_kinds.proofs.judging.refusal_of.Goals as goal

pub returns-in-Some : goal.returns-in-Some
unfolding refusal_of
returns-in-Some c =
    sym (ap (λ o. first_or o (refusal_of_parts c.args.caps.now c.args.kind.now)) (sym c.listed_refusal.ensures ∙ c.in-Some.is))

pub returns-in-None : goal.returns-in-None
returns-in-None c =
    c.refusal_of_parts.ensures ∙ refusal-parts c.args.caps.now c.args.kind.now (sym c.listed_refusal.ensures ∙ c.in-None.is)
