-- Invariants of the loops of `runs::all_until`.
use Rattle.std.specs.Prelude.{◌≡◌, ℕ, ◌<◌, length, slice_index_or, true, false}
use Rattle.psi_log_scan.proofs.runs.all_until.Given as goal

abbrev pub invariant-loop-place : goal.invariant-loop-place
invariant-loop-place l = record {
  count : length l.same ≡ 128;
  until : (i : ℕ) → i < l.place → slice_index_or l.same i false ≡ true;
}
