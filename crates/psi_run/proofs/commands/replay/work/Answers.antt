-- Answers in the proof of `replay::work`.
use Rattle.std.proofs.Common.{ap, ◌∙◌}
use Rattle.psi_reply.proofs.ReplayingLemmas.{replayed_by}
use Rattle.psi_run.proofs.ReplayingLemmas.{no_text, on_text}
use Rattle.psi_run.proofs.SparingLemmas.{ends-read}
use Rattle.psi_run.proofs.ReadFilesLemmas.{read_last}
use Rattle.psi_run.proofs.commands.replay.work.Goals as goal

pub returns-in-Ok : goal.returns-in-Ok
returns-in-Ok g c =
    let made = c.system-system.ensures in
    let text = c.feed_log.new.to.taken in
    let same = c.in-Ok.ensures.setting ∙ ap (λ r. r.system) c.new-replay.ensures in
    let gives = rw same at c.verdict.ensures in
    let ends = c.verdict_ending.ensures c.args.net.now text
    (replayed_by _ c.system-system.result c.args.net.now text c.verdict.result made.kept
    (record { caps = made.caps; functions = made.functions; rates = made.rates; limit = made.limit; split = made.split }) gives) in
    record {
      ending = λ told are name at. on_text _ name c.args.log.now c.args.net.now text _ at (c.in-Ok.ensures.text told are) ends;
      read = λ given. ends-read _ _ ends;
      spared = c.in-Ok.ensures.spared;
      agrees = c.in-Ok.ensures.agrees;
      asked = c.in-Ok.ensures.asked;
    }

pub returns-clause-ending : goal.returns-clause-ending
returns-clause-ending g c told are name at = no_text _ name c.args.log.now c.args.net.now c.in-Err.ending at (c.in-Err.ensures.none told are) (read_last _ _ c.in-Err.ensures.asked)
