-- The path that is walked.
use Rattle.psi_path.specs.Path.{path_of}
use Rattle.psi_path_packed.proofs.walk.PackedWalkPathWalker.run.Given as goal

abbrev pub ghost-walk : goal.ghost-walk
ghost-walk g a = record { path = path_of g.E.EventLaw.function a.system.now (g.P.Past.words a.past.now) a.start.now; steps = a.steps; packing = a.layout.now }
