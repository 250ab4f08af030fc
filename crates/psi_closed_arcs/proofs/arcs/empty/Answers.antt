-- Answers in the proof of `empty`.
use Rattle.std.proofs.Common.{arith}
use Rattle.psi_closed_arcs.proofs.RowsLemmas.{empty-more}
use Rattle.psi_closed_arcs.proofs.arcs.empty.Goals as goal

pub loop-end-preserved : goal.loop-end-preserved
loop-end-preserved c = empty-more c.loop-end.rows c.loop-end.end c.none.result (omega arith) c.none.ensures c.loop-end.invariant

pub returns : goal.returns
returns c = record { each = λ e t within less. c.loop-end.invariant e t (omega arith) less }
