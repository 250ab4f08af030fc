-- Answers in the proof of `laws::short_paths_tell_samples`.
use Rattle.psi_paths_laws.proofs.JoinedLemmas.{short, unmet}
use Rattle.psi_paths_laws.proofs.laws.short_paths_tell_samples.Goals as goal

pub returns : goal.returns
returns c = record { met = short; unmet = unmet }
