-- Answers in the proof of `Bounds::within`.
use Rattle.psi_state.proofs.BoxesLemmas.{AreAmong-box, below-low, below-high}
use Rattle.psi_state.proofs.bounds.Bounds.within.Goals as goal

pub returns-then-leq : goal.returns-then-leq
returns-then-leq c = rw (← c.self.view_is, ← c.other.view_is) (
  λ t. AreAmong-box _ _ _ _ (c.leq.ensures.0 c.if-leq.true) (c.leq-then-leq.ensures.0 t),
  λ a. c.leq-then-leq.ensures.1 (below-high _ _ _ _ c.self.invariant a),
)

pub returns-else-leq : goal.returns-else-leq
returns-else-leq c = rw (← c.self.view_is, ← c.other.view_is) (
  λ t. absurd cc,
  λ a. c.leq.ensures.1 (below-low _ _ _ _ c.self.invariant a),
)
