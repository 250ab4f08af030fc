-- The array `queue`.
use Rattle.std.specs.Prelude.{ℕ, List, [], ◌∷◌, ◌++◌, map, min, codes, Option, Result, Ok}
use Rattle.toml.specs.Data.{Data, Members, get_member}
use Rattle.psi_net_document.specs.Refusal.{◌>>=◌, top, queue_place}
use Rattle.psi_net_document.specs.Values.{no_unknown, required, optional, number_in, elements_in, table_in, each}
use Rattle.psi_net_document.specs.Names.{name_in, unless_taken}
use Rattle.psi_net_document.specs.declared.refusals.NetCause.TheVariants.{MissingKey}
use Rattle.psi_net_document.specs.declared.refusals.NetRefusal.{NetRefusal}
use Rattle.psi_net_document.specs.declared.refusals.Place.{Place}
use Rattle.psi_net_model.specs.declared.entries.Queue.{Queue}

-- the keys of a queue's table
abbrev pub queue_keys : List (List ℕ)
queue_keys = codes "name" ∷ codes "capacity" ∷ codes "servers" ∷ []

-- a queue's table, with its place and the names of the queues before it
unfoldable pub queue_of : Place → List (List ℕ) → Members → Result Queue NetRefusal
queue_of place earlier ms = do
  known ← no_unknown place queue_keys ms
  name ← required place (codes "name") (name_in place (codes "name")) (get_member (codes "name") ms)
  fresh ← unless_taken place earlier name
  capacity ← required place (codes "capacity") (number_in place (codes "capacity") 1 65535) (get_member (codes "capacity") ms)
  servers ← optional 1 (number_in place (codes "servers") 1 (min 64 capacity)) (get_member (codes "servers") ms)
  Ok (record { name = name; capacity = capacity; servers = servers })

-- one element of the array, with its number and the queues before it
unfoldable pub queue_step : ℕ → List Queue → Data → Result (List Queue) NetRefusal
queue_step n earlier d = do
  ms ← table_in (queue_place n) d
  queue ← queue_of (queue_place n) (map (λ q. q.name) earlier) ms
  Ok (earlier ++ queue ∷ [])

-- `queue`: an array of 1 to 32 tables
unfoldable pub queues_in : Data → Result (List Queue) NetRefusal
queues_in d = elements_in top (codes "queue") MissingKey 32 d >>= each queue_step 1 []

-- the queues of a document, whose key `queue` is required
abbrev pub queues_of : Option Data → Result (List Queue) NetRefusal
queues_of found = required top (codes "queue") queues_in found
