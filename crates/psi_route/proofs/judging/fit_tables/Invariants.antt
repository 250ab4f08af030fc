-- Invariants of the loops of `fit_tables`.
use Rattle.std.proofs.Common.{◌≡◌, ◌<◌, ℕ, [], slice_index, get_or, length}
use Rattle.psi_route.proofs.judging.fit_tables.Given as goal

abbrev pub invariant-loop-i : goal.invariant-loop-i
invariant-loop-i l = (k : ℕ) → k < l.i → length (get_or l.tables k []) ≡ slice_index l.caps (slice_index l.targets k)
