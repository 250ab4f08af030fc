-- Invariants of the loops of `runs::around`.
use Rattle.std.specs.Prelude.{◌≡◌, ◌⊎◌, ℕ, ◌<◌, ◌≤◌, length, slice_index_or, true, false}
use Rattle.psi_log_scan.proofs.runs.around.Given as goal

abbrev pub invariant-loop-place : goal.invariant-loop-place
invariant-loop-place l = record {
  count : length l.same ≡ 128;
  from : l.from ≤ l.place;
  around : (i : ℕ) → i < l.len → (i < l.from) ⊎ (l.until ≤ i) → slice_index_or l.same i false ≡ true;
}
