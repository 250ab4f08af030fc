-- Answers in the proof of `ends`.
use Rattle.std.proofs.Common.{rules}
use Rattle.psi_guard.proofs.IntervalsLemmas.{least-greatest}
use Rattle.psi_guard.proofs.envelope.ends.Goals as goal

pub returns-clause-ordered : goal.returns-clause-ordered
returns-clause-ordered c = search (rules, least-greatest)
