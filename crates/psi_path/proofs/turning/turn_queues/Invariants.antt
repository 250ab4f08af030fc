-- The sums of the queues up to this one are turned.
use Rattle.std.proofs.Common.{◌≡◌, ℕ, ◌+◌, ◌*◌, ◌<◌, ◌≤◌, length, slice_index}
use Rattle.psi_path.proofs.turning.turn_queues.Given as goal

abbrev pub invariant-loop-q : goal.invariant-loop-q
invariant-loop-q l = record {
  sized : length l.sums.items ≡ length l.fn.sums.items;
  turned : (k : ℕ) → k < l.q → slice_index l.sums.items k + l.left * slice_index l.before k ≡ slice_index l.fn.sums.items k + l.left * slice_index l.state k;
  kept : (k : ℕ) → l.q ≤ k → slice_index l.sums.items k ≡ slice_index l.fn.sums.items k;
}
