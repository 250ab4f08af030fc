-- What a route keeps beside its parts: the numbers that a step reads.
use Rattle.std.specs.Prelude.{◌≡◌, ℕ, ◌-◌, ◌<◌, List, length, slice_index, Option, Some, None}
use Rattle.psi_route.specs.Routing.{source_least}
use Rattle.psi_route.specs.declared.parts.Source.{Source}
use Rattle.psi_route.specs.declared.flat.Server.{Server}

-- the greatest number of customers with which each target has room for so many more
pub record AreRooms (caps : List ℕ) (size : ℕ) (targets rooms : List ℕ) : Type 0 where
  pub each : (i : ℕ) → i < length targets → slice_index rooms i ≡ slice_index caps (slice_index targets i) - size

-- the queue of a source, and queue 0 without one
abbrev pub served_queue : Option Source → ℕ
served_queue None = 0
served_queue (Some source) = source.queue

-- how many customers leave a source at a service
abbrev pub leaving : Option Source → ℕ
leaving None = 0
leaving (Some source) = 1

-- a source or none: without one, no customer of queue 0 is wanted, and none leaves
pub record IsServer (source : Option Source) (server : Server) : Type 0 where
  pub queue : server.queue ≡ served_queue source
  pub least : server.least ≡ source_least source
  pub leaving : server.leaving ≡ leaving source
