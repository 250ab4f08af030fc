-- Answers in the proof of `law_of_many_samples`.
use Rattle.std.proofs.Common.{rules}
use Rattle.psi_law_many.proofs.ManyLemmas.{are-many}
use Rattle.psi_law_many.proofs.samples.law_of_many_samples.Goals as goal

pub returns : goal.returns
returns g c = (let laws = are-many c.law_of_samples.ensures.chain c.law_of_samples.ensures.reaches in search rules)
