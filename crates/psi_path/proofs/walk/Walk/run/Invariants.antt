-- The path that is walked: under the words of the past, from the state in which it begins.
use Rattle.psi_path.proofs.walk.Walk.run.Given as goal

abbrev pub ghost-finish : goal.ghost-finish
ghost-finish g a = record { words = g.P.Past.words a.past.now; start = a.self.now.state; steps = a.steps }
