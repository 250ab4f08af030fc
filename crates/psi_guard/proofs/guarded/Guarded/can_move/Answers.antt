-- Answers in the proof of `Guarded::can_move`.
use Rattle.std.proofs.Common.{rules}
use Rattle.psi_guard.proofs.IntervalsLemmas.{meets-all, misses-one}
use Rattle.psi_guard.proofs.guarded.Guarded.can_move.Goals as goal

pub returns-then-h-part : goal.returns-then-h-part
returns-then-h-part c = search (rules, misses-one)

pub returns : goal.returns
returns c = search (rules, meets-all)
