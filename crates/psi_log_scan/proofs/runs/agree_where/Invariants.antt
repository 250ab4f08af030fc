-- Invariants of the loops of `runs::agree_where`.
use Rattle.std.specs.Prelude.{◌≡◌, ℕ, ◌<◌, slice_index, slice_index_or, true, false}
use Rattle.psi_log_scan.proofs.runs.agree_where.Given as goal

-- the bytes so far are the same, wherever they have to be
abbrev pub invariant-loop-place : goal.invariant-loop-place
invariant-loop-place l = l.apart ≡ false → (i : ℕ) → i < l.place → slice_index_or l.same i false ≡ true → slice_index l.text i ≡ slice_index l.bytes i
