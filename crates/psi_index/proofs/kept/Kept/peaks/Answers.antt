-- Answers in the proof of `Kept::peaks`.
use Rattle.psi_index.proofs.RisingLemmas.{rising-peaks}
use Rattle.psi_index.proofs.kept.Kept.peaks.Goals as goal

pub returns-then-self-clause-peaks : goal.returns-then-self-clause-peaks
returns-then-self-clause-peaks c = rw (c.deref.ensures.value, ← c.self.view_is) (rising-peaks _ (c.self.invariant.0.risen.0 c.if-self.true))
