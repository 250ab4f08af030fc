-- Answers in the proof of `Kept::troughs`.
use Rattle.psi_index.proofs.RisingLemmas.{rising-troughs}
use Rattle.psi_index.proofs.kept.Kept.troughs.Goals as goal

pub returns-then-self : goal.returns-then-self
returns-then-self c = rw (c.deref.ensures.value, ← c.self.view_is) (rising-troughs _ (c.self.invariant.0.risen.0 c.if-self.true))
