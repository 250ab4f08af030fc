-- Answers in the proof of `work`.
use Rattle.std.proofs.Common.{◌∙◌}
use Rattle.std.specs.Prelude.{Ok}
use Rattle.psi_command.specs.Request.{asked}
use Rattle.psi_run.proofs.AskedLemmas.{asked_none, ended_earlier}
use Rattle.psi_io.proofs.AgreeingLemmas.{agrees_first, agrees_second, agrees_both}
use Rattle.psi_run.proofs.SparingLemmas.{net_given, given_on}
use Rattle.psi_run.proofs.ReadFilesLemmas.{read_last, asked_all, asked_first}
use Rattle.psi_run.proofs.commands.work.Goals as goal

pub returns-in-Ok-clause-ending : goal.returns-in-Ok-clause-ending
returns-in-Ok-clause-ending g c told are =
    let first = agrees_first told _ _ _ _ _ c.in-Ok.ensures.agrees c.answer.ensures.agrees are in
    let second = agrees_second told _ _ _ _ _ c.in-Ok.ensures.agrees c.answer.ensures.agrees are in
    let network = c.in-Ok.ensures.network told first in (
      ended_earlier _ _ _ _ _ _ _ _ _ c.in-Ok.ensures.counts (c.answer.ensures.ending told second c.args.name.now network),
      asked_all _ c.args.name.now c.args.question _ _ c.in-Ok.net network c.in-Ok.ensures.asked (c.answer.ensures.asked c.args.name.now),
    )

pub returns-in-Ok-clause-agrees : goal.returns-in-Ok-clause-agrees
returns-in-Ok-clause-agrees g c = agrees_both _ _ _ _ c.in-Ok.ensures.agrees (rw c.in-Ok.ensures.told at c.answer.ensures.agrees)

pub returns-in-Ok-clause-read : goal.returns-in-Ok-clause-read
returns-in-Ok-clause-read g c given = c.answer.ensures.read c.args.name.now (given_on _ _ (Ok (asked c.args.name.now c.args.question)) c.in-Ok.ensures.gives given)

pub returns-in-Ok-clause-spared : goal.returns-in-Ok-clause-spared
returns-in-Ok-clause-spared g c given =
    c.answer.ensures.spared c.args.name.now (given_on _ _ (Ok (asked c.args.name.now c.args.question)) c.in-Ok.ensures.gives given)
    ∙ c.in-Ok.ensures.spared (net_given (g.F.Shelf.gives c.args.shelf.now) c.args.name.now c.args.question given)

pub returns-in-Err-clause-ending : goal.returns-in-Err-clause-ending
returns-in-Err-clause-ending g c told are =
    let none = c.in-Err.ensures.none told are in (
      asked_none _ c.args.name.now c.args.question c.in-Err.ending none (read_last _ _ c.in-Err.ensures.asked),
      asked_first _ c.args.name.now c.args.question c.in-Err.ending none c.in-Err.ensures.asked,
    )

pub returns-in-Err-clause-read : goal.returns-in-Err-clause-read
returns-in-Err-clause-read g c given = c.in-Err.ensures.read (net_given (g.F.Shelf.gives c.args.shelf.now) c.args.name.now c.args.question given)

pub returns-in-Err-clause-spared : goal.returns-in-Err-clause-spared
returns-in-Err-clause-spared g c given = c.in-Err.ensures.spared (net_given (g.F.Shelf.gives c.args.shelf.now) c.args.name.now c.args.question given)
