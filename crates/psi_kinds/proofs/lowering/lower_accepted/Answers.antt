-- Answers in the proof of `lower_accepted`.
use Rattle.std.proofs.Common.{List, ℕ, sym, subst}
use Rattle.std.proofs.lemmas.Result.{IfOk-weaker}
use Rattle.psi_kinds.specs.Kinds.{Does}
use Rattle.psi_kinds.specs.Forms.{upset_of}
use Rattle.psi_kinds.proofs.AcceptingLemmas.{accepted-parts}
use Rattle.psi_kinds.proofs.DoesLemmas.{form-does, unrefused}
use Rattle.psi_kinds.proofs.lowering.lower_accepted.Goals as goal

pub event_of-requires-clause-unrefused : goal.event_of-requires-clause-unrefused
event_of-requires-clause-unrefused c =
    unrefused c.args.caps c.args.kind.now (accepted-parts c.args.caps c.args.kind.now c.requires.accepted).0

pub event_of-requires-clause-parts : goal.event_of-requires-clause-parts
event_of-requires-clause-parts c = (accepted-parts c.args.caps c.args.kind.now c.requires.accepted).1

pub returns-clause-does : goal.returns-clause-does
returns-clause-does c =
    IfOk-weaker c.event_of.result _ _ (λ event is. subst (λ (f : List ℕ → List ℕ). Does c.args.caps f c.args.kind.now) (sym is)
    (form-does c.args.caps c.args.kind.now c.requires.caps c.requires.named
    (unrefused c.args.caps c.args.kind.now (accepted-parts c.args.caps c.args.kind.now c.requires.accepted).0))) c.event_of.ensures.function

pub returns-clause-upset : goal.returns-clause-upset
unfolding upset_of
returns-clause-upset c = c.event_of.ensures.upset
