-- Answers in the proof of `Guarded::piecewise`.
use Rattle.std.proofs.Common.{rules}
use Rattle.psi_guard.proofs.PiecesLemmas.{pieces-does}
use Rattle.psi_guard.proofs.pieces.GuardedPiecewiseLaw.piecewise.Goals as goal

pub returns-then-is_told : goal.returns-then-is_told
returns-then-is_told c = search (rules, pieces-does)
