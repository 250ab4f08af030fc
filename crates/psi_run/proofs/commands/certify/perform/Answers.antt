-- Answers in the proof of `certify::perform`.
use Rattle.std.specs.Prelude.{refl}
use Rattle.psi_command.specs.Command.{certify}
use Rattle.psi_run.proofs.EndingsLemmas.{no_net, on_net}
use Rattle.psi_run.proofs.SparingLemmas.{ends-read}
use Rattle.psi_run.proofs.ReadFilesLemmas.{read_last, asked_certify}
use Rattle.psi_reply.proofs.CertifyingLemmas.{certified_printed}
use Rattle.psi_run.proofs.AboutsLemmas.{certify_about}
use Rattle.psi_program.proofs.FinishingLemmas.{finished_as, finished_with}
use Rattle.psi_run.proofs.commands.certify.perform.Goals as goal

pub returns-in-Ok-clause-finished : goal.returns-in-Ok-clause-finished
returns-in-Ok-clause-finished g c =
    let command = certify c.args.net.now c.args.seed c.args.stream in
    finished_as _ _ _ _ _ _ c.write_sample.result c.write_sample.ensures
    (λ ending ends. (
      λ told are. (
        on_net command c.args.net.now _ _ c.in-Ok.net ending _ refl (certify_about _ c.args.net.now c.args.seed c.args.stream) (c.in-Ok.ensures.network told are) ends
            (λ has kept before after grew. certified_printed before after c.in-Ok.net c.args.seed c.args.stream kept c.ranges.seed.fits c.ranges.stream.fits grew),
        asked_certify _ _ _ _ _ c.in-Ok.ensures.asked,
      ),
      λ given. ends-read ending _ ends,
    ))

pub returns-in-Err-clause-finished : goal.returns-in-Err-clause-finished
returns-in-Err-clause-finished g c =
    finished_with _ _ _ _ _ _ c.finish.result c.finish.ensures (
      λ told are. (
        no_net (certify c.args.net.now c.args.seed c.args.stream) c.args.net.now _ _ c.in-Err.ending (certify_about _ c.args.net.now c.args.seed c.args.stream) (c.in-Err.ensures.none told are)
            (read_last _ _ c.in-Err.ensures.asked),
        asked_certify _ _ _ _ _ c.in-Err.ensures.asked,
      ),
      c.in-Err.ensures.read,
    )
