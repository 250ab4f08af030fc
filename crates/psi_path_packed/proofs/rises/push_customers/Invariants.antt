-- The rises of the queues before this one stand after those that were there.
use Rattle.std.proofs.Common.{pos, ◌-ℤ◌, slice_index}
use Rattle.psi_path_packed.specs.Inner.RisesKept.{IsLonger}
use Rattle.psi_path_packed.proofs.rises.push_customers.Given as goal

abbrev pub invariant-loop-q : goal.invariant-loop-q
invariant-loop-q l = record {
  longer : IsLonger l.fn.rises.items l.q (λ q. pos (slice_index l.change.ups q) -ℤ pos (slice_index l.change.downs q)) l.rises.items;
}
