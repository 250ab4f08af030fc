-- Answers in the proof of `work::perform`.
use Rattle.psi_program.proofs.FinishingLemmas.{finished_as, finished_with}
use Rattle.psi_run.proofs.SparingLemmas.{ends-read}
use Rattle.psi_streams.proofs.NamingLemmas.{named_read}
use Rattle.psi_streams.proofs.EndingsLemmas.{on_net, no_net}
use Rattle.psi_streams.proofs.work.perform.Goals as goal

pub returns-in-Ok-clause-finished : goal.returns-in-Ok-clause-finished
returns-in-Ok-clause-finished g c =
    finished_as _ _ _ _ _ _ c.write_states.result c.write_states.ensures
    (λ ending ends. record {
      any = λ told are. on_net _ _ _ c.in-Ok.ensures.asked c.in-Ok.net ending (c.in-Ok.ensures.network told are) ends;
      read = λ given. ends-read ending _ ends;
    })

pub returns-in-Err-clause-finished : goal.returns-in-Err-clause-finished
returns-in-Err-clause-finished g c =
    finished_with _ _ _ _ _ _ c.finish.result c.finish.ensures (record {
      any = λ told are. no_net _ _ _ c.in-Err.ensures.asked c.in-Err.ending (c.in-Err.ensures.none told are);
      read = λ given. named_read _ _ (c.in-Err.ensures.read given);
    })
