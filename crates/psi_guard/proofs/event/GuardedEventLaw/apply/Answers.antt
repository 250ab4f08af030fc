-- Answers in the proof of `GuardedEventLaw::apply`.
use Rattle.std.proofs.Common.{ℕ, List, sym, ◌∙◌, subst}
use Rattle.psi_state.specs.State.{IsBelow}
use Rattle.psi_guard.specs.Inner.RuleLaws.{guarded-closed, guarded-keeps}
use Rattle.psi_guard.proofs.event.GuardedEventLaw.apply.Goals as goal

pub returns-then-allows-clause-within : goal.returns-then-allows-clause-within
returns-then-allows-clause-within c =
    let event = c.args.self.now in
    subst (λ (y : List ℕ). IsBelow y event.caps) (sym c.move_each.ensures)
    ((guarded-closed event.caps event.parts event.guards).each c.args.x.now c.requires)

pub returns-else-allows-clause-value : goal.returns-else-allows-clause-value
returns-else-allows-clause-value c = sym (guarded-keeps c.args.self.now.parts c.args.x.now (sym c.allows.ensures ∙ c.if-allows.false))

pub returns-then-count-le1-clause-within : goal.returns-then-count-le1-clause-within
returns-then-count-le1-clause-within c =
    let event = c.args.self.now in
    subst (λ (y : List ℕ). IsBelow y event.caps) (sym c.apply_one.ensures)
    ((guarded-closed event.caps event.parts event.guards).each c.args.x.now c.requires)
