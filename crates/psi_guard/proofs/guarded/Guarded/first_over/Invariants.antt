-- Invariants of the loops of `Guarded::first_over`.
use Rattle.std.proofs.Common.{◌≡◌, ℕ, ◌<◌, List, Option, None}
use Rattle.psi_guard.specs.Guarding.{AnswersAs}
use Rattle.psi_guard.proofs.guarded.Guarded.first_over.Given as goal

abbrev pub invariant-loop-p : goal.invariant-loop-p
invariant-loop-p g l = (f : ℕ → Option (List ℕ × List ℕ)) → AnswersAs l.self.caps (goal.F-post g l.test) f → (k : ℕ) → k < l.p → f k ≡ None
