-- Answers in the proof of `Diagram::single`.
use Rattle.std.proofs.Common.{IfSome, subst}
use Rattle.psi_closed.specs.Closed.{IsOfTotal, held_states}
use Rattle.psi_closed.specs.Diagram.{Shown}
use Rattle.psi_closed.proofs.ArcsLemmas.{In-of_held}
use Rattle.psi_closed.proofs.StatesLemmas.{one-each}
use Rattle.psi_closed.proofs.diagram.Diagram.single.Goals as goal

pub returns-clause-within : goal.returns-clause-within
returns-clause-within c =
    let d = c.self.inside in
    subst (λ (s : Shown). IfSome c.only_state.result (λ x. IsOfTotal s.caps s.total x)) c.self.view_is
    (one-each (held_states d.caps d.held.total d.held.arcs) (λ x. IsOfTotal d.caps d.held.total x) c.only_state.result c.only_state.ensures.value
    (λ x member. (In-of_held d.caps d.held.total d.held.arcs x member).0))
