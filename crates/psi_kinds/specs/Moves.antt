-- Moves of one customer from a queue to another, and the kinds of events that are such.
use Rattle.std.specs.Prelude.{◌≢◌, ℕ, ◌+◌, ◌-◌, ◌<◌, ◌≤◌, List, [], ◌∷◌, length, ◌&&◌, nat_le, nat_lt, if◌then◌else◌, Option, Some, None, slice_index, slice_set}
use Rattle.psi_route.specs.declared.Full.TheVariants.{Stay}
use Rattle.psi_kinds.specs.declared.kinds.Kind.{Kind}
use Rattle.psi_kinds.specs.declared.kinds.Kind.TheVariants.{Service}
use Rattle.psi_kinds.specs.declared.moves.Move.{Move}

-- what a move makes of a state: one customer goes from a queue that holds at least k to another that has room
unfoldable pub moved : List ℕ → Move → List ℕ → List ℕ
moved caps m x =
    if nat_le m.k (slice_index x m.from) && nat_lt (slice_index x m.to) (slice_index caps m.to)
    then slice_set (slice_set x m.from (slice_index x m.from - 1)) m.to (slice_index x m.to + 1)
    else x

-- the queues of a move are two of the network's, and it takes from 1 to the capacity of the one to serve
pub record IsMove (caps : List ℕ) (m : Move) : Type 0 where
  pub source : m.from < length caps
  pub target : m.to < length caps
  pub apart : m.from ≢ m.to
  pub some : 1 ≤ m.k
  pub most : m.k ≤ slice_index caps m.from

-- the move that a kind of event is, if it is one: a service with one queue to go to, whose customers stay where that queue is full
abbrev pub move_of : Kind → Option Move
move_of (Service from (to ∷ []) Stay) = Some (record { from = from.queue; k = from.k; to = to })
move_of kind = None
