-- Answers in the proof of `run`.
use Rattle.std.specs.Prelude.{map, string_bytes, refl}
use Rattle.psi_program.proofs.FinishingLemmas.{finished_for}
use Rattle.psi_command.proofs.AskingLemmas.{sample_asked}
use Rattle.psi_io.proofs.AgreeingLemmas.{agrees_unmoved}
use Rattle.psi_run.specs.Ending.{EndsAnyhow}
use Rattle.psi_run.proofs.FinishingLemmas.{finished_usage, finished_run, finished_means, finished_headline, finished_spared, finished_edge}
use Rattle.psi_run.proofs.program.run.Goals as goal

pub returns-in-Ok : goal.returns-in-Ok
returns-in-Ok g c =
    let words = map string_bytes c.args.words.now in
    let told = g.F.Shelf.told c.args.shelf.now in
    let agrees = c.perform.ensures.agrees in
    let finished = finished_for (EndsAnyhow _ _) c.in-Ok.ensures.command c.perform.ensures.finished in
    record {
      call = finished_run words finished told agrees;
      headline = λ name seed stream bytes net are small less.
          finished_headline words finished told agrees name seed stream bytes net (sample_asked words name seed stream are small less);
      edge = finished_edge words finished told agrees;
      means = finished_means words finished told agrees;
      spared = λ reply there given taken.
          (let sinks = finished_spared words finished told agrees reply there given taken in
          (c.perform.ensures.spared (rw c.in-Ok.ensures.command at given), sinks.0, sinks.1, sinks.2));
    }

pub returns-in-Err : goal.returns-in-Err
returns-in-Err g c =
    let words = map string_bytes c.args.words.now in
    let old = c.args.shelf.now in
    let told = g.F.Shelf.told old in
    let agrees = agrees_unmoved told (g.F.Shelf.gave old) in
    let finished = finished_for (EndsAnyhow _ (g.F.Shelf.gives old)) c.in-Err.ensures.command
    (finished_usage (g.F.Shelf.gave old) (g.F.Shelf.asked old) (g.F.Shelf.faults old) c.in-Err.place c.finish.ensures) in
    record {
      call = finished_run words finished told agrees;
      headline = λ name seed stream bytes net are small less.
          finished_headline words finished told agrees name seed stream bytes net (sample_asked words name seed stream are small less);
      edge = finished_edge words finished told agrees;
      means = finished_means words finished told agrees;
      spared = λ reply there given taken.
          (let sinks = finished_spared words finished told agrees reply there given taken in
          (refl, sinks.0, sinks.1, sinks.2));
    }
