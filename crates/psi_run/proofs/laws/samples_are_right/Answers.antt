-- The laws in the proof of `laws::samples_are_right`.
use Rattle.psi_run.proofs.HeadlineLemmas.{samples_of_given, samples_of_whole}
use Rattle.psi_run.proofs.laws.samples_are_right.Goals as goal

pub returns-clause-given : goal.returns-clause-given
returns-clause-given c = samples_of_given

pub returns-clause-whole : goal.returns-clause-whole
returns-clause-whole c = samples_of_whole
