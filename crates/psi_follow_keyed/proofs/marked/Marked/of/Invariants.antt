-- Invariants of the loops of `Marked::of`.
use Rattle.std.proofs.Common.{◌≡◌, ℕ, ◌<◌, ◌≤◌, length, slice_index}
use Rattle.psi_follow_keyed.specs.Keys.{no_key, key_in}
use Rattle.psi_follow_keyed.proofs.marked.Marked.of.Given as goal

abbrev pub invariant-loop-place : goal.invariant-loop-place
invariant-loop-place l = record {
  count : length l.keys ≡ 32;
  own : (i : ℕ) → i < l.place → slice_index l.keys i ≡ key_in l.board l.state i;
  past : (i : ℕ) → l.place ≤ i → i < 32 → slice_index l.keys i ≡ no_key;
}
