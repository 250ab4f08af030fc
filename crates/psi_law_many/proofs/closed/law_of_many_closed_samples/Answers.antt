-- Answers in the proof of `law_of_many_closed_samples`.
use Rattle.std.proofs.Common.{rules}
use Rattle.psi_law_many.proofs.ManyLemmas.{are-many}
use Rattle.psi_law_many.proofs.closed.law_of_many_closed_samples.Goals as goal

pub returns : goal.returns
returns c = (let laws = are-many c.law_of_closed_samples.ensures.chain c.law_of_closed_samples.ensures.reaches in search rules)
