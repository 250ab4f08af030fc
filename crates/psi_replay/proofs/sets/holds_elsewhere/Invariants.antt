-- Invariants of the loops of `sets::holds_elsewhere`.
use Rattle.std.specs.Prelude.{◌≡◌, ℕ, ◌-◌, ◌<◌, ◌≤◌, length, Some, slice_get}
use Rattle.psi_replay.proofs.sets.holds_elsewhere.Given as goal

-- the state stands at a place between the two, if anywhere
abbrev pub invariant-loop-low : goal.invariant-loop-low
invariant-loop-low l = record {
  most : l.high ≤ length l.rows.states;
  between : (k : ℕ) → slice_get l.rows.states k ≡ Some l.x → (l.low ≤ k) × (k < l.high);
}

-- the stretch gets shorter
abbrev pub decreases-loop-low : goal.decreases-loop-low
decreases-loop-low l = l.high - l.low
