-- Answers in the proof of `run`.
use Rattle.std.specs.Prelude.{map, string_bytes, None}
use Rattle.std.proofs.Common.{ap, sym}
use Rattle.psi_program.proofs.FinishingLemmas.{finished_for}
use Rattle.psi_streams.specs.Ended.{IsEndingOf}
use Rattle.psi_streams.proofs.FinishingLemmas.{finished_run, finished_means, finished_headline, finished_spared, finished_edge}
use Rattle.psi_states.specs.Program.{asked_of, states}
use Rattle.psi_states.proofs.program.run.Goals as goal

pub returns : goal.returns
returns g c =
    let words = map string_bytes c.args.words.now in
    let told = g.F.Shelf.told c.args.shelf.now in
    let agrees = c.run.ensures.agrees in
    let asks = c.asked_of-asked.ensures.asked in
    let finished = finished_for (IsEndingOf states.name _ _) (sym asks) c.run.ensures.finished in
    record {
      call = finished_run states words finished told agrees;
      headline = λ name seed first count bytes net asked there accepted read printed reported memory.
          finished_headline states words finished told agrees
          (record { table = record { net = name; seed = seed; first = first; count = count; total = None }; steps = None }) (ap asked_of asked)
          read printed reported memory bytes net there accepted;
      edge = finished_edge states words finished told agrees;
      means = λ table asked kind. finished_means states words finished told agrees _ (ap asked_of asked) kind;
      spared = λ reply there given taken.
          (let sinks = finished_spared states words finished told agrees reply there given taken in
          (c.run.ensures.spared (rw asks given), sinks.0, sinks.1, sinks.2));
    }
