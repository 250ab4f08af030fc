-- Invariants of the loops of `are_roomy`.
use Rattle.std.proofs.Common.{◌≡◌, drop, slice_index, nat_le}
use Rattle.std.specs.List.{list_all}
use Rattle.psi_net.proofs.kind_tables.are_roomy.Given as goal

abbrev pub invariant-loop-place : goal.invariant-loop-place
invariant-loop-place l = list_all (λ q. nat_le l.size (slice_index l.caps q)) (drop l.place l.to) ≡ list_all (λ q. nat_le l.size (slice_index l.caps q)) l.to
