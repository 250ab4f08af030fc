-- Invariants of the loops of `Bounds::apart`.
use Rattle.std.specs.Prelude.{◌≡◌, ◌==◌, ◌&&◌, if◌then◌else◌, ℕ, ◌<◌, ◌≤◌, slice_index}
use Rattle.std.specs.Int.{bit_at}
use Rattle.psi_state.proofs.bounds.Bounds.apart.Given as goal

abbrev pub invariant-loop-i : goal.invariant-loop-i
invariant-loop-i l = record {
  told : (k : ℕ) → k < l.i → bit_at l.apart k ≡ (if slice_index l.lo k == slice_index l.others_lo k && slice_index l.hi k == slice_index l.others_hi k then 0 else 1);
  rest : (k : ℕ) → l.i ≤ k → bit_at l.apart k ≡ 0;
}
