-- The second piece brings what it takes.
use Rattle.std.proofs.Common.{sym, ◌∙◌}
use Rattle.psi_state.proofs.StatesLemmas.{same-from_eq}
use Rattle.psi_path_packed.proofs.RisesLemmas.{change-is}
use Rattle.psi_path_packed.proofs.rises.change_of.Goals as goal

pub returns-then-eq : goal.returns-then-eq
returns-then-eq g c = change-is _ _ c.in_ok-pieces.pieces c.in_ok-pieces.ensures (same-from_eq _ _ (sym c.eq.ensures ∙ c.if-eq.true))
