-- Answers in the proof of `Guarded::accepted`.
use Rattle.std.proofs.Common.{rules}
use Rattle.psi_guard.proofs.AcceptedLemmas.{guards-accepted}
use Rattle.psi_guard.proofs.guarded.Guarded.accepted.Goals as goal

pub invariant_of-result : goal.invariant_of-result
invariant_of-result c = search (rules, guards-accepted)
