-- Answers in the proof of `run`.
use Rattle.psi_program.proofs.SparingLemmas.{spared}
use Rattle.psi_merge.specs.Ended.{faults}
use Rattle.psi_merge.proofs.RunningLemmas.{run_is}
use Rattle.psi_merge.proofs.HeadingLemmas.{merges}
use Rattle.psi_merge.proofs.EdgeLemmas.{ended_edge}
use Rattle.psi_merge.proofs.program.run.Goals as goal

pub returns-clause-call : goal.returns-clause-call
returns-clause-call g c =
    let written = rw (c.status.ensures, c.text.ensures) at c.finish.ensures.written in
    run_is _ _ (c.work-ending.ensures.ending (g.F.Shelf.told c.args.shelf.now) c.work-ending.ensures.agrees) c.finish.result written

pub returns-clause-headline : goal.returns-clause-headline
returns-clause-headline g c =
    let written = rw (c.status.ensures, c.text.ensures) at c.finish.ensures.written in
    merges _ c.finish.result (run_is _ _ (c.work-ending.ensures.ending (g.F.Shelf.told c.args.shelf.now) c.work-ending.ensures.agrees) c.finish.result written)

pub returns-clause-edge : goal.returns-clause-edge
returns-clause-edge g c =
    let written = rw (c.status.ensures, c.text.ensures) at c.finish.ensures.written in
    ended_edge _ _ _ _ c.finish.result _ c.work-ending.ensures.ending written (g.F.Shelf.told c.args.shelf.now) c.work-ending.ensures.agrees

pub returns-clause-spared : goal.returns-clause-spared
returns-clause-spared g c reply there given taken =
    let is = rw (c.status.ensures, c.text.ensures) at c.finish.ensures.taken in
    let ends = c.work-ending.ensures.ending (g.F.Shelf.told c.args.shelf.now) c.work-ending.ensures.agrees in
    let written = spared faults _ _ _ _ reply there _ _ taken c.finish.result _ ends.reply ends.cause (c.work-ending.ensures.read given) is in
    (c.work-ending.ensures.spared given, written.0, written.1, written.2)
