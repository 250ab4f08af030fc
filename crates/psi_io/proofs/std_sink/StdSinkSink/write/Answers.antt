-- Answers in the proof of `StdSinkSink::write`.
use Rattle.std.proofs.Common.{refl}
use Rattle.psi_io.proofs.AcceptingLemmas.{appends-recorded, recorded-prefix}
use Rattle.psi_io.proofs.std_sink.StdSinkSink.write.Goals as goal

pub returns-in-Ok-clause-appended : goal.returns-in-Ok-clause-appended
returns-in-Ok-clause-appended g c bytes is =
    appends-recorded _ _ _ _ c.self.view_is c.and-self-inside.ensures g.W.Write.contents _ bytes c.write_and_flush-count.ensures.appended is

pub returns-in-Err-clause-appended : goal.returns-in-Err-clause-appended
returns-in-Err-clause-appended g c bytes is =
    appends-recorded _ _ _ _ c.self.view_is c.and-self-inside.ensures g.W.Write.contents _ bytes c.write_and_flush-count.ensures.appended is

pub returns-in-Err-clause-took_part : goal.returns-in-Err-clause-took_part
returns-in-Err-clause-took_part g c = recorded-prefix _ _ _ _ c.self.view_is c.and-self-inside.ensures c.args.piece.now c.write_and_flush-count.result.0 refl
