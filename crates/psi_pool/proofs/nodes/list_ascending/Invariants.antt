-- Invariants of the loops of `list_ascending`.
use Rattle.std.proofs.Common.{◌≡◌, vec_capacity}
use Rattle.psi_pool.proofs.ListingLemmas.{IsListing}
use Rattle.psi_pool.proofs.nodes.list_ascending.Given as goal

abbrev pub invariant-loop-place : goal.invariant-loop-place
invariant-loop-place l = record {
  listing : IsListing l.nodes l.fn.nodes l.out.items l.aside l.place;
  capacity : vec_capacity l.out ≡ vec_capacity l.fn.out;
}
