-- Answers in the proof of `common_zeros`.
use Rattle.std.proofs.Common.{arith, below_more}
use Rattle.std.proofs.lemmas.Nat.{le_or_l}
use Rattle.std.proofs.lemmas.Grind.{common_steps}
use Rattle.psi_rate.proofs.EventTableLemmas.{or-multiple, trailing-multiple, trailing-short}
use Rattle.psi_rate.proofs.event_table.common_zeros.Goals as goal

pub loop-total-preserved : goal.loop-total-preserved
loop-total-preserved c = grind (arith, common_steps, le_or_l, or-multiple, below_more)

pub returns-clause-bits : goal.returns-clause-bits
returns-clause-bits c = trailing-short c.loop-total.bits c.loop-total.invariant.some c.loop-total.auto.bits-fits.fits

pub returns-clause-modulus : goal.returns-clause-modulus
returns-clause-modulus c = grind (arith, common_steps, trailing-multiple)

pub returns-clause-totals : goal.returns-clause-totals
returns-clause-totals c = grind (arith, common_steps, trailing-multiple)
