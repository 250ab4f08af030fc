-- Answers in the proof of `Pool::step`.
use Rattle.std.proofs.Common.{◌∙◌, List, ℕ, ap, subst}
use Rattle.psi_state.specs.Sets.{image}
use Rattle.psi_state.specs.Ascending.{HaveSame}
use Rattle.psi_pool.specs.Pooled.{Pooled}
use Rattle.psi_pool.specs.Inner.StateTablesKept.{held}
use Rattle.psi_pool.proofs.KeepingLemmas.{seen, states-stepped}
use Rattle.psi_pool.proofs.pool.Pool.step.Goals as goal

pub move_on-requires-clause-below : goal.move_on-requires-clause-below
move_on-requires-clause-below g c x member =
    c.requires.below x (seen (held c.self.inside.table) c.self.inside.most c.args.self.now x c.self.view_is member)

pub returns-clause-states : goal.returns-clause-states
returns-clause-states g c =
    states-stepped (g.E.EventLaw.function c.args.e.now) (held c.self.inside.table) (held c.link_when_due.new.table)
    (subst (λ (xs : List (List ℕ)). HaveSame (held c.link_when_due.new.table) xs) c.move_on.ensures.states c.link_when_due.ensures.members)
    ∙ ap (λ (p : Pooled). image (g.E.EventLaw.function c.args.e.now) p.states) c.self.view_is
