-- Invariants of the loops of `are_units`.
use Rattle.std.proofs.Common.{◌≡◌, ◌<◌, ℕ, slice_index_or, true, false, None}
use Rattle.psi_follow_sets.proofs.boxes.are_units.Given as goal

-- each event before this one that halts is one of single customers
abbrev pub invariant-loop-number : goal.invariant-loop-number
invariant-loop-number g l = (i : ℕ) → i < l.number → slice_index_or l.halts i false ≡ true → slice_index_or l.units i None ≡ None → ⊥
