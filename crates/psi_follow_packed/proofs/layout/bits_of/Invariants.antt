use Rattle.std.proofs.Common.{◌<◌, ◌≤◌, ◌-◌, ◌^◌, ℕ, slice_index}
use Rattle.psi_follow_packed.specs.Packed.{LeavesFree}
use Rattle.psi_follow_packed.proofs.layout.bits_of.Given as goal

abbrev pub invariant-loop-queue : goal.invariant-loop-queue
invariant-loop-queue l = record {
  some : 2 ≤ l.bits;
  few : l.bits ≤ 17;
  free : (q : ℕ) → q < l.queue → slice_index l.caps q < 2 ^ (l.bits - 1);
  least : (bits : ℕ) → 2 ≤ bits → LeavesFree l.caps bits → l.bits ≤ bits;
}
