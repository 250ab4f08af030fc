-- A row for each event so far.
use Rattle.std.proofs.Common.{◌≡◌, map}
use Rattle.std.specs.Prelude.{vec_capacity}
use Rattle.psi_path_table.specs.Table.{AreRows}
use Rattle.psi_path_table.proofs.filling.fill.Given as goal

abbrev pub invariant-loop-event : goal.invariant-loop-event
invariant-loop-event g l = record {
  rows : AreRows l.system.caps (map g.E.EventLaw.function l.system.events) l.event-index l.ranks.items;
  room : vec_capacity l.ranks ≡ vec_capacity l.fn.ranks;
}
