-- Answers in the proof of `stream::StreamReplay::verdict`.
use Rattle.psi_replay.proofs.PassLemmas.{replay_long}
use Rattle.psi_replay.proofs.stream.StreamReplay.verdict.Goals as goal

pub returns-then-self-gt-MOST : goal.returns-then-self-gt-MOST
returns-then-self-gt-MOST g c = rw (← c.self.view_is, c.at.ensures) (replay_long _ _ _ c.self.invariant.0 c.if-self-gt-MOST.true)
