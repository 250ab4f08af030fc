-- Answers in the proof of `Bounds::holds`.
use Rattle.psi_state.proofs.BoxesLemmas.{In-box, In-of_box}
use Rattle.psi_state.proofs.bounds.Bounds.holds.Goals as goal

pub returns-then-leq : goal.returns-then-leq
returns-then-leq c = rw (← c.self.view_is) (
  λ t. In-box c.self.inside.lo c.self.inside.hi c.args.x.now (c.leq.ensures.0 c.if-leq.true) (c.leq-then-leq.ensures.0 t),
  λ m. c.leq-then-leq.ensures.1 ((In-of_box c.self.inside.lo c.self.inside.hi c.args.x.now m).high),
)

pub returns-else-leq : goal.returns-else-leq
returns-else-leq c = rw (← c.self.view_is) (
  λ t. absurd cc,
  λ m. c.leq.ensures.1 ((In-of_box c.self.inside.lo c.self.inside.hi c.args.x.now m).low),
)
