-- Answers in the proof of `sets::is_there`.
use Rattle.std.specs.Prelude.{length}
use Rattle.std.proofs.Common.{arith}
use Rattle.psi_replay.proofs.SetLemmas.{place_long}
use Rattle.psi_replay.proofs.sets.is_there.Goals as goal

pub is_there-requires-clause-queues : goal.is_there-requires-clause-queues
is_there-requires-clause-queues c =
    place_long (length c.args.x.now) c.args.rows.now.states c.args.place c.requires (omega (arith, c.len.ensures, c.if-place-len.true))
