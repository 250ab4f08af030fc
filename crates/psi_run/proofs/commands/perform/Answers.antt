-- Answers in the proof of `perform`.
use Rattle.std.specs.Prelude.{refl}
use Rattle.psi_run.proofs.EndingsLemmas.{on_number}
use Rattle.psi_run.proofs.SparingLemmas.{ends-read, certify_given}
use Rattle.psi_run.proofs.ReadFilesLemmas.{asked_trial}
use Rattle.psi_reply.proofs.ReportingLemmas.{trial_printed}
use Rattle.psi_program.proofs.FinishingLemmas.{finished_with, finished_as}
use Rattle.psi_io.proofs.AgreeingLemmas.{agrees_unmoved}
use Rattle.psi_run.proofs.commands.perform.Goals as goal

pub returns-in-Trial-clause-agrees : goal.returns-in-Trial-clause-agrees
returns-in-Trial-clause-agrees g c = agrees_unmoved _ _

pub returns-in-About-clause-finished : goal.returns-in-About-clause-finished
returns-in-About-clause-finished g c =
    rw c.in-About.is (finished_with _ _ _ _ _ _ c.finish.result c.finish.ensures (record { any = c.work.ensures.ending; read = c.work.ensures.read }))

pub returns-in-About-clause-spared : goal.returns-in-About-clause-spared
returns-in-About-clause-spared g c = rw c.in-About.is c.work.ensures.spared

pub returns-in-Trial-clause-finished : goal.returns-in-Trial-clause-finished
returns-in-Trial-clause-finished g c =
    let number = c.in-Trial.number in
    let worked = c.trial_ending.ensures in
    rw c.in-Trial.is (finished_with _ _ _ _ _ _ c.finish-in-Trial.result c.finish-in-Trial.ensures (record {
      any = λ told are. (on_number _ number _ _ refl worked.reply (λ has before after grew. trial_printed before after number (worked.kept has) grew), asked_trial _ number _ refl);
      read = λ given. ends-read _ _ worked.reply;
    }))

pub returns-in-Certify-clause-finished : goal.returns-in-Certify-clause-finished
returns-in-Certify-clause-finished g c =
    let certify = c.in-Certify in
    rw c.in-Certify.is (finished_as _ _ _ _ _ _ c.perform.result c.perform.ensures.finished
    (λ ending is. record { any = is.0; read = λ given. is.1 (certify_given (g.F.Shelf.gives c.args.shelf.now) certify.net.now certify.seed certify.stream given) }))

pub returns-in-Certify-clause-spared : goal.returns-in-Certify-clause-spared
returns-in-Certify-clause-spared g c =
    let certify = c.in-Certify in
    rw c.in-Certify.is (λ given. c.perform.ensures.spared (certify_given (g.F.Shelf.gives c.args.shelf.now) certify.net.now certify.seed certify.stream given))
