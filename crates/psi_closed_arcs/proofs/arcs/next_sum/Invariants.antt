-- Invariants of the loops of `next_sum`.
use Rattle.std.proofs.Common.{◌≡◌, ◌<◌, ◌≤◌, ℕ, true}
use Rattle.psi_closed_arcs.specs.Sums.{has}
use Rattle.psi_closed_arcs.proofs.arcs.next_sum.Given as goal

abbrev pub invariant-loop-sum : goal.invariant-loop-sum
invariant-loop-sum l = (t : ℕ) → l.first ≤ t → t < l.sum → has l.row t ≡ true → ⊥
