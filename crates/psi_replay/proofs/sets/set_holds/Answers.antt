-- Answers in the proof of `sets::set_holds`.
use Rattle.std.proofs.Common.{sym, refl}
use Rattle.psi_replay.proofs.ListLemmas.{has_at}
use Rattle.psi_replay.proofs.sets.set_holds.Goals as goal

pub returns-then-is_there : goal.returns-then-is_there
returns-then-is_there c = sym (has_at c.args.rows.now.states c.args.x.now _ (c.if-is_there.ensures refl))
