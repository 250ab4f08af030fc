-- The array `event`.
use Rattle.std.specs.Prelude.{ℕ, List, [], ◌∷◌, ◌++◌, map, length, codes, ◌==◌, nat_le, Option, Some, None, ok_or, Result, Ok, Err, if◌then◌else◌}
use Rattle.std.specs.Str.{bytes_eq}
use Rattle.toml.specs.Data.{Data, Members, get_member}
use Rattle.psi_rate.specs.Rates.{greatest_total, total}
use Rattle.psi_kinds.specs.declared.Kind.{Kind}
use Rattle.psi_net_document.specs.Refusal.{◌>>=◌, holds_or, at_key, top, event_place}
use Rattle.psi_net_document.specs.Values.{no_unknown, required, number_in, text_in, elements_in, table_in, each}
use Rattle.psi_net_document.specs.Names.{name_in, unless_taken}
use Rattle.psi_net_model.specs.Expansion.{source_of, expanded, values_of, most_index_values, count_key}
use Rattle.psi_net.specs.KindTables.{arrival_of, service_of, index_of, batch_of, negative_of, fork_of, join_of}
use Rattle.psi_net.specs.PartTables.{guarded_of}
use Rattle.psi_net_document.specs.declared.refusals.NetCause.TheVariants.{UnknownKind, TooMany, NoEvents, TotalTooLarge}
use Rattle.psi_net_document.specs.declared.refusals.Place.{Place}
use Rattle.psi_net_document.specs.declared.refusals.NetRefusal.{NetRefusal}
use Rattle.psi_net_model.specs.declared.entries.Queue.{Queue}
use Rattle.psi_net_model.specs.declared.entries.NamedEvent.{NamedEvent}
use Rattle.psi_net.specs.declared.words.KindWord.{KindWord}
use Rattle.psi_net.specs.declared.words.KindWord.TheVariants as word

-- the kind that a text names in a file of this version: `guarded` is one in version 2 alone
abbrev pub kind_named : ℕ → List ℕ → Option KindWord
kind_named version text =
    if bytes_eq text (codes "arrival") then Some word.Arrival
    else if bytes_eq text (codes "service") then Some word.Service
    else if bytes_eq text (codes "index") then Some word.Index
    else if bytes_eq text (codes "batch") then Some word.Batch
    else if bytes_eq text (codes "negative") then Some word.Negative
    else if bytes_eq text (codes "fork") then Some word.Fork
    else if bytes_eq text (codes "join") then Some word.Join
    else if bytes_eq text (codes "guarded") then (if version == 2 then Some word.Guarded else None)
    else None

-- the keys that only events of some kinds have
abbrev pub own_keys : KindWord → List (List ℕ)
own_keys word.Arrival = codes "to" ∷ []
own_keys word.Service = codes "from" ∷ codes "to" ∷ codes "full" ∷ []
own_keys word.Index = codes "from" ∷ codes "to" ∷ codes "table" ∷ codes "full" ∷ codes "size" ∷ []
own_keys word.Batch = codes "to" ∷ codes "size" ∷ []
own_keys word.Negative = codes "from" ∷ codes "on" ∷ codes "amount" ∷ []
own_keys word.Fork = codes "from" ∷ codes "to" ∷ []
own_keys word.Join = codes "from" ∷ codes "to" ∷ []
own_keys word.Guarded = codes "part" ∷ []

-- the keys of the table of an event of this kind
abbrev pub event_keys : KindWord → List (List ℕ)
event_keys word = codes "kind" ∷ codes "name" ∷ codes "rate" ∷ own_keys word

-- the names of the tables read so far, and their events expanded over servers
pub record Listed : Type 0 where
  pub names : List (List ℕ)
  pub events : List NamedEvent

-- the event at this place
module _ (place : Place) where
  -- `kind`
  unfoldable pub kind_in : ℕ → Data → Result KindWord NetRefusal
  kind_in version d = do
    text ← text_in place (codes "kind") d
    ok_or (kind_named version text) (at_key UnknownKind place (codes "kind"))

  -- what the keys of its own say of an event of this kind
  unfoldable pub kind_of : KindWord → List (List ℕ) → List ℕ → Members → Result Kind NetRefusal
  kind_of word.Arrival names caps ms = arrival_of place names ms
  kind_of word.Service names caps ms = service_of place names ms
  kind_of word.Index names caps ms = index_of place names caps ms
  kind_of word.Batch names caps ms = batch_of place names caps ms
  kind_of word.Negative names caps ms = negative_of place names ms
  kind_of word.Fork names caps ms = fork_of place names ms
  kind_of word.Join names caps ms = join_of place names ms
  kind_of word.Guarded names caps ms = guarded_of place names caps ms

  -- an event's table, with its place and the names of the events before it; the first server of its source stands for all
  unfoldable pub event_of : ℕ → List (List ℕ) → List (List ℕ) → List ℕ → Members → Result NamedEvent NetRefusal
  event_of version earlier names caps ms = do
    word ← required place (codes "kind") (kind_in version) (get_member (codes "kind") ms)
    known ← no_unknown place (event_keys word) ms
    name ← required place (codes "name") (name_in place (codes "name")) (get_member (codes "name") ms)
    fresh ← unless_taken place earlier name
    rate ← required place (codes "rate") (number_in place (codes "rate") 1 1048576) (get_member (codes "rate") ms)
    kind ← kind_of word names caps ms
    Ok (record { name = name; server = 1; rate = rate; kind = kind })

  -- so many expanded events, index values and numbers of rates are within their limits
  unfoldable pub within_limits : List ℕ → ℕ → ℕ → ℕ → Result (Unit {0}) NetRefusal
  within_limits key events values rates = do
    few ← holds_or (at_key TooMany place key) (nat_le events 1024)
    small ← holds_or (at_key TooMany place (codes "table")) (nat_le values most_index_values)
    holds_or (at_key TotalTooLarge place (codes "rate")) (nat_le rates greatest_total)

  -- the events so far, the last ones those of this event, are within their limits
  unfoldable pub are_within : NamedEvent → List NamedEvent → Result (Unit {0}) NetRefusal
  are_within event events = within_limits (count_key (source_of event.kind)) (length events) (values_of events) (total (map (λ e. e.rate) events))

-- in a file of this version with these queues
module _ (version : ℕ) (queues : List Queue) where
  -- one element of the array, with its number and what was read before it
  unfoldable pub event_step : ℕ → Listed → Data → Result Listed NetRefusal
  event_step n earlier d = do
    ms ← table_in (event_place n) d
    event ← event_of (event_place n) version earlier.names (map (λ q. q.name) queues) (map (λ q. q.capacity) queues) ms
    within ← are_within (event_place n) event (earlier.events ++ expanded queues event)
    Ok (record { names = earlier.names ++ event.name ∷ []; events = earlier.events ++ expanded queues event })

  -- `event`: an array of 1 to 1,024 tables
  unfoldable pub events_in : Data → Result (List NamedEvent) NetRefusal
  events_in d = do
    tables ← elements_in top (codes "event") NoEvents 1024 d
    read ← each event_step 1 (record { names = []; events = [] }) tables
    Ok read.events

  -- the events of a document, whose key `event` is required
  abbrev pub events_of : Option Data → Result (List NamedEvent) NetRefusal
  events_of None = Err (at_key NoEvents top (codes "event"))
  events_of (Some d) = events_in d
