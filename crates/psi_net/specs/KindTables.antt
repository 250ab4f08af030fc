-- The keys of each kind of event, in the order in which they are read.
use Rattle.std.specs.Prelude.{ℕ, List, [], ◌∷◌, ◌++◌, length, slice_index, codes, Bool, false, not, ◌||◌, ◌==◌, nat_le, Option, Some, None, is_some, Result, Ok, Err, if◌then◌else◌}
use Rattle.std.specs.List.{list_all}
use Rattle.std.specs.Str.{bytes_eq}
use Rattle.toml.specs.Data.{Data, string, Members, get_member}
use Rattle.psi_route.specs.declared.Source.{Source}
use Rattle.psi_route.specs.declared.Full.{Full}
use Rattle.psi_route.specs.declared.Full.TheVariants.{Lost, Stay}
use Rattle.psi_kinds.specs.declared.Kind.{Kind}
use Rattle.psi_kinds.specs.declared.Kind.TheVariants as kind
use Rattle.psi_net_document.specs.Refusal.{◌>>=◌, holds_or, at_key}
use Rattle.psi_net_document.specs.Values.{required, optional, number_in, counted_in, each}
use Rattle.psi_net_document.specs.References.{queue_in, target_in, targets_in, some_targets_in}
use Rattle.psi_net_document.specs.declared.refusals.NetCause.TheVariants.{WrongType, OutOfRange, BatchTooLarge}
use Rattle.psi_net_document.specs.declared.refusals.Place.{Place}
use Rattle.psi_net_document.specs.declared.refusals.NetRefusal.{NetRefusal}
use Rattle.psi_net_model.specs.Expansion.{first_server}

-- the queue of a source may not be among the targets
abbrev pub queue_of_source : Option Source → List ℕ
queue_of_source None = []
queue_of_source (Some source) = source.queue ∷ []

-- the greatest index value
abbrev pub greatest_index_value : ℕ
greatest_index_value = 1000000000

-- the event at this place
module _ (place : Place) where
  -- `full`: "lost" or "stay"
  unfoldable pub full_in : Data → Result Full NetRefusal
  full_in (string text) =
      if bytes_eq text (codes "lost") then Ok Lost
      else if bytes_eq text (codes "stay") then Ok Stay
      else Err (at_key OutOfRange place (codes "full"))
  full_in d = Err (at_key WrongType place (codes "full"))

  -- one more integer of a row
  unfoldable pub number_step : ℕ → List ℕ → Data → Result (List ℕ) NetRefusal
  number_step n earlier d = do
    number ← number_in place (codes "table") 0 greatest_index_value d
    Ok (earlier ++ number ∷ [])

  -- one row of an index's table, with the rows before it: as many integers as the next target's capacity
  unfoldable pub row_step : List ℕ → List ℕ → ℕ → List (List ℕ) → Data → Result (List (List ℕ)) NetRefusal
  row_step caps to n rows d = do
    elements ← counted_in place (codes "table") (slice_index caps (slice_index to (length rows))) d
    row ← each number_step 1 [] elements
    Ok (rows ++ row ∷ [])

  -- `table` of an index: one row for each target
  unfoldable pub table_of : List ℕ → List ℕ → Data → Result (List (List ℕ)) NetRefusal
  table_of caps to d = counted_in place (codes "table") (length to) d >>= each (row_step caps to) 1 []

  -- `size`: 1 beside a source, and at most every target's capacity
  unfoldable pub size_fits : List ℕ → Bool → List ℕ → ℕ → Result ℕ NetRefusal
  size_fits caps has_source to size = do
    single ← holds_or (at_key OutOfRange place (codes "size")) (not has_source || size == 1)
    roomy ← holds_or (at_key BatchTooLarge place (codes "size")) (list_all (λ q. nat_le size (slice_index caps q)) to)
    Ok size

-- the event at this place, in a file whose queues have these names
module _ (place : Place) (names : List (List ℕ)) where
  -- `from`, where it is optional
  unfoldable pub source_in : Data → Result (Option Source) NetRefusal
  source_in d = do
    queue ← queue_in place (codes "from") names d
    Ok (Some (first_server queue))

  -- the keys of an arrival
  unfoldable pub arrival_of : Members → Result Kind NetRefusal
  arrival_of ms = do
    to ← required place (codes "to") (some_targets_in place (codes "to") names []) (get_member (codes "to") ms)
    Ok (kind.Arrival to)

  -- the keys of a service: customers leave the network where `to` is left out
  unfoldable pub service_of : Members → Result Kind NetRefusal
  service_of ms = do
    from ← required place (codes "from") (queue_in place (codes "from") names) (get_member (codes "from") ms)
    to ← optional [] (targets_in place (codes "to") names (from ∷ [])) (get_member (codes "to") ms)
    full ← optional Lost (full_in place) (get_member (codes "full") ms)
    Ok (kind.Service (first_server from) to full)

  -- the keys of an index event
  unfoldable pub index_of : List ℕ → Members → Result Kind NetRefusal
  index_of caps ms = do
    from ← optional None source_in (get_member (codes "from") ms)
    to ← required place (codes "to") (some_targets_in place (codes "to") names (queue_of_source from)) (get_member (codes "to") ms)
    table ← required place (codes "table") (table_of place caps to) (get_member (codes "table") ms)
    full ← optional Lost (full_in place) (get_member (codes "full") ms)
    size ← optional 1 (number_in place (codes "size") 1 65535) (get_member (codes "size") ms)
    fitting ← size_fits place caps (is_some from) to size
    Ok (kind.Index from to table full fitting)

  -- the keys of a batch
  unfoldable pub batch_of : List ℕ → Members → Result Kind NetRefusal
  batch_of caps ms = do
    to ← required place (codes "to") (some_targets_in place (codes "to") names []) (get_member (codes "to") ms)
    size ← required place (codes "size") (number_in place (codes "size") 1 65535) (get_member (codes "size") ms)
    fitting ← size_fits place caps false to size
    Ok (kind.Batch to fitting)

  -- the keys of a negative event: `on` isn't the source
  unfoldable pub negative_of : Members → Result Kind NetRefusal
  negative_of ms = do
    from ← optional None source_in (get_member (codes "from") ms)
    on ← required place (codes "on") (target_in place (codes "on") names (queue_of_source from)) (get_member (codes "on") ms)
    amount ← optional 1 (number_in place (codes "amount") 1 65535) (get_member (codes "amount") ms)
    Ok (kind.Negative from on amount)

  -- the keys of a fork
  unfoldable pub fork_of : Members → Result Kind NetRefusal
  fork_of ms = do
    from ← optional None source_in (get_member (codes "from") ms)
    to ← required place (codes "to") (some_targets_in place (codes "to") names (queue_of_source from)) (get_member (codes "to") ms)
    Ok (kind.Fork from to)

  -- `to` of a join: it isn't in `from`
  unfoldable pub joined_in : List ℕ → Data → Result (Option ℕ) NetRefusal
  joined_in from d = do
    queue ← target_in place (codes "to") names from d
    Ok (Some queue)

  -- the keys of a join
  unfoldable pub join_of : Members → Result Kind NetRefusal
  join_of ms = do
    from ← required place (codes "from") (some_targets_in place (codes "from") names []) (get_member (codes "from") ms)
    to ← optional None (joined_in from) (get_member (codes "to") ms)
    Ok (kind.Join from to)
