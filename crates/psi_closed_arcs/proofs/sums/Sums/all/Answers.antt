-- Answers in the proof of `Sums::all`.
use Rattle.psi_closed_arcs.proofs.SumsLemmas.{all-has}
use Rattle.psi_closed_arcs.proofs.sums.Sums.all.Goals as goal

pub returns : goal.returns
returns c t small = all-has t small
