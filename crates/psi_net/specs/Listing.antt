-- What was read of the array `event` so far.
use Rattle.std.specs.Prelude.{List}
use Rattle.std.specs.List.{flat_map}
use Rattle.psi_net_model.specs.Expansion.{expanded}
use Rattle.psi_net_model.specs.declared.entries.Queue.{Queue}
use Rattle.psi_net.specs.EventTables.{Listed}
use Rattle.psi_net.specs.declared.event_tables.EventList.{EventList}

-- the names of the tables, and their events expanded over the servers of these queues
abbrev pub listed : List Queue → EventList → Listed
listed queues list = record { names = list.names.keys; events = flat_map (expanded queues) list.events.items }
