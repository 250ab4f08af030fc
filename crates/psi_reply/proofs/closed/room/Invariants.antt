-- Invariants of the loops of `closed::room`.
use Rattle.std.proofs.Common.{◌≡◌, ◌≤◌, ◌*◌, take}
use Rattle.psi_closed_arcs.specs.Walks.{customers}
use Rattle.psi_net_model.specs.Network.{caps_of}
use Rattle.psi_reply.proofs.closed.room.Given as goal

abbrev pub invariant-loop-i : goal.invariant-loop-i
invariant-loop-i l = record {
  sum : l.room ≡ customers (take l.i (caps_of l.net));
  most : l.room ≤ 65535 * l.i;
}
