-- Answers in the proof of `Sums::none`.
use Rattle.psi_closed_arcs.proofs.SumsLemmas.{none-has}
use Rattle.psi_closed_arcs.proofs.sums.Sums.none.Goals as goal

pub returns : goal.returns
returns c t small = none-has t small
