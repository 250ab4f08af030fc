-- Answers in the proof of `Guarded::leaving`.
use Rattle.std.proofs.Common.{rules}
use Rattle.psi_guard.proofs.IntervalsLemmas.{knows-end}
use Rattle.psi_guard.proofs.guarded.Guarded.leaving.Goals as goal

pub returns : goal.returns
returns c = search (rules, knows-end)
