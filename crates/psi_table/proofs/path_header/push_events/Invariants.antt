-- Invariants of the loops of `path_header::push_events`.
use Rattle.std.proofs.Common.{◌≡◌, [], ◌++◌, take}
use Rattle.std.specs.List.{flat_map}
use Rattle.csv.specs.Records.{fields_of, partial_of}
use Rattle.psi_table.specs.Paths.{event_columns}
use Rattle.psi_table.proofs.path_header.push_events.Given as goal

abbrev pub invariant-loop-event : goal.invariant-loop-event
invariant-loop-event l = record {
  fields : fields_of l.header ≡ fields_of l.fn.header ++ flat_map event_columns (take l.event l.net.events);
  whole : partial_of l.header ≡ [];
}
