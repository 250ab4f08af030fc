-- The array `part` of a guarded event.
use Rattle.std.specs.Prelude.{ℕ, pos, List, [], ◌∷◌, ◌++◌, slice_index, codes, not, nat_le, Result, Ok, Err}
use Rattle.toml.specs.Data.{Data, table, Members, get_member}
use Rattle.psi_guard.specs.Refusals.{names as is_named}
use Rattle.psi_guard.specs.declared.Part.{Part}
use Rattle.psi_kinds.specs.declared.Kind.{Kind}
use Rattle.psi_kinds.specs.declared.Kind.TheVariants as kind
use Rattle.psi_net_document.specs.Refusal.{◌>>=◌, holds_or, at_key}
use Rattle.psi_net_document.specs.Values.{no_unknown, required, optional, number_in, integer_in, elements_in, each}
use Rattle.psi_net_document.specs.References.{queue_in}
use Rattle.psi_net_document.specs.declared.refusals.NetCause.TheVariants.{WrongType, OutOfRange, RepeatedTarget, EmptyGuard}
use Rattle.psi_net_document.specs.declared.refusals.Place.{Place}
use Rattle.psi_net_document.specs.declared.refusals.NetRefusal.{NetRefusal}

-- an element that is a table; another one is refused at the key `part`
unfoldable pub part_table : Place → Data → Result Members NetRefusal
part_table place (table ms) = Ok ms
part_table place d = Err (at_key WrongType place (codes "part"))

-- the keys of a part's table
abbrev pub part_keys : List (List ℕ)
part_keys = codes "queue" ∷ codes "least" ∷ codes "most" ∷ codes "shift" ∷ codes "floor" ∷ codes "ceiling" ∷ []

-- the queue of a part, which no earlier part names
unfoldable pub part_queue : Place → List (List ℕ) → List Part → Data → Result ℕ NetRefusal
part_queue place names earlier d = do
  queue ← queue_in place (codes "queue") names d
  fresh ← holds_or (at_key RepeatedTarget place (codes "queue")) (not (is_named earlier queue))
  Ok queue

-- the numbers of a part of this queue, which holds at most so many customers
unfoldable pub part_numbers : Place → ℕ → ℕ → Members → Result Part NetRefusal
part_numbers place queue cap ms = do
  least ← optional 0 (number_in place (codes "least") 0 cap) (get_member (codes "least") ms)
  most ← optional cap (number_in place (codes "most") 0 cap) (get_member (codes "most") ms)
  shift ← optional (pos 0) (integer_in place (codes "shift") 65535) (get_member (codes "shift") ms)
  floor ← optional 0 (number_in place (codes "floor") 0 cap) (get_member (codes "floor") ms)
  ceiling ← optional cap (number_in place (codes "ceiling") 0 cap) (get_member (codes "ceiling") ms)
  Ok (record { queue = queue; least = least; most = most; shift = shift; floor = floor; ceiling = ceiling })

-- the part, if its guard and its limits leave room
unfoldable pub unless_empty : Place → Part → Result Part NetRefusal
unless_empty place part = do
  guarded ← holds_or (at_key EmptyGuard place (codes "least")) (nat_le part.least part.most)
  bounded ← holds_or (at_key EmptyGuard place (codes "floor")) (nat_le part.floor part.ceiling)
  Ok part

-- the event at this place, in a file whose queues have these names and capacities
module _ (place : Place) (names : List (List ℕ)) (caps : List ℕ) where
  -- a part's table, with the parts before it
  unfoldable pub part_of : List Part → Members → Result Part NetRefusal
  part_of earlier ms = do
    known ← no_unknown place part_keys ms
    queue ← required place (codes "queue") (part_queue place names earlier) (get_member (codes "queue") ms)
    part ← part_numbers place queue (slice_index caps queue) ms
    unless_empty place part

  -- one element of the array, with the parts before it
  unfoldable pub part_step : ℕ → List Part → Data → Result (List Part) NetRefusal
  part_step n earlier d = do
    ms ← part_table place d
    part ← part_of earlier ms
    Ok (earlier ++ part ∷ [])

  -- `part`: an array of 1 to 32 tables
  unfoldable pub parts_in : Data → Result (List Part) NetRefusal
  parts_in d = elements_in place (codes "part") OutOfRange 32 d >>= each part_step 1 []

  -- the key of a guarded event
  unfoldable pub guarded_of : Members → Result Kind NetRefusal
  guarded_of ms = do
    parts ← required place (codes "part") parts_in (get_member (codes "part") ms)
    Ok (kind.Guarded parts)
