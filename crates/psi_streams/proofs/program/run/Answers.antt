-- Answers in the proof of `program::run`.
use Rattle.std.specs.Prelude.{refl}
use Rattle.std.proofs.Common.{ap}
use Rattle.psi_io.proofs.AgreeingLemmas.{agrees_unmoved}
use Rattle.psi_program.proofs.FinishingLemmas.{finished_for}
use Rattle.psi_streams.specs.Asked.{seen_result}
use Rattle.psi_streams.specs.Ended.{IsEndingOf}
use Rattle.psi_streams.proofs.FinishingLemmas.{finished_usage}
use Rattle.psi_streams.proofs.program.run.Goals as goal

pub returns-in-Ok : goal.returns-in-Ok
returns-in-Ok g c = record {
  finished = finished_for (IsEndingOf _ _ _) (ap seen_result c.in-Ok.is) c.perform.ensures.finished;
  agrees = c.perform.ensures.agrees;
  spared = λ given. c.perform.ensures.spared (rw c.in-Ok.is at given);
}

pub returns-in-Err : goal.returns-in-Err
returns-in-Err g c =
    let old = c.args.shelf.now in
    record {
      finished = finished_for (IsEndingOf _ _ _) (ap seen_result c.in-Err.is)
          (finished_usage c.args.name.now (g.F.Shelf.gave old) (g.F.Shelf.asked old) (g.F.Shelf.faults old) c.in-Err.place c.finish.ensures);
      agrees = agrees_unmoved (g.F.Shelf.told old) (g.F.Shelf.gave old);
      spared = λ given. refl;
    }
