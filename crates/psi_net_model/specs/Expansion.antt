-- Events are expanded over the servers of their sources.
use Rattle.std.specs.Prelude.{ℕ, ◌<◌, List, map, length, slice_index, codes, Option, Some, None, option_map, All, IfSome}
use Rattle.psi_state.specs.State.{numbers_from}
use Rattle.psi_rate.specs.Rates.{total}
use Rattle.psi_route.specs.declared.Source.{Source}
use Rattle.psi_kinds.specs.declared.Kind.{Kind}
use Rattle.psi_kinds.specs.declared.Kind.TheVariants.{Arrival, Service, Index, Batch, Negative, Fork, Join, Guarded}
use Rattle.psi_net_model.specs.declared.entries.Queue.{Queue}
use Rattle.psi_net_model.specs.declared.entries.NamedEvent.{NamedEvent}

-- the single source of a kind, if it has one
abbrev pub source_of : Kind → Option Source
source_of (Arrival to) = None
source_of (Service from to full) = Some from
source_of (Index from to table full size) = from
source_of (Batch to size) = None
source_of (Negative from on amount) = from
source_of (Fork from to) = from
source_of (Join from to) = None
source_of (Guarded parts) = None

-- a queue as a source, with its first server
abbrev pub first_server : ℕ → Source
first_server queue = record { queue = queue; k = 1 }

-- the source with another server
abbrev pub with_server : ℕ → Source → Source
with_server k source = record source { k = k }

-- the kind with another server of its source
abbrev pub at_server : ℕ → Kind → Kind
at_server k (Arrival to) = Arrival to
at_server k (Service from to full) = Service (with_server k from) to full
at_server k (Index from to table full size) = Index (option_map (with_server k) from) to table full size
at_server k (Batch to size) = Batch to size
at_server k (Negative from on amount) = Negative (option_map (with_server k) from) on amount
at_server k (Fork from to) = Fork (option_map (with_server k) from) to
at_server k (Join from to) = Join from to
at_server k (Guarded parts) = Guarded parts

-- an event of the file becomes as many as its source has servers; without a single source it stays one
abbrev pub servers_at : List Queue → Option Source → ℕ
servers_at queues None = 1
servers_at queues (Some source) = slice_index (map (λ q. q.servers) queues) source.queue

-- the event at the server of this number
abbrev pub served : NamedEvent → ℕ → NamedEvent
served event k = record event { server = k; kind = at_server k event.kind }

-- the events of the first n servers, in their order
unfoldable pub served_by : ℕ → NamedEvent → List NamedEvent
served_by n event = map (served event) (numbers_from 1 n)

-- an event expanded over the servers of its source
abbrev pub expanded : List Queue → NamedEvent → List NamedEvent
expanded queues event = served_by (servers_at queues (source_of event.kind)) event

-- the source of each event that has one is one of the queues
pub record AreSourced (queues : List Queue) (events : List NamedEvent) : Type 0 where
  pub each : All (λ e. IfSome (source_of e.kind) (λ source. source.queue < length queues)) events

-- the number of index values of a kind
abbrev pub values_in : Kind → ℕ
values_in (Arrival to) = 0
values_in (Service from to full) = 0
values_in (Index from to table full size) = total (map length table)
values_in (Batch to size) = 0
values_in (Negative from on amount) = 0
values_in (Fork from to) = 0
values_in (Join from to) = 0
values_in (Guarded parts) = 0

-- the number of index values of events
abbrev pub values_of : List NamedEvent → ℕ
values_of events = total (map (λ e. values_in e.kind) events)

-- the most index values that the events of a network may have
abbrev pub most_index_values : ℕ
most_index_values = 262144

-- the key at which too many expanded events are refused
abbrev pub count_key : Option Source → List ℕ
count_key None = codes "kind"
count_key (Some source) = codes "from"
