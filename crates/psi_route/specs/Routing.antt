-- Routes: customers who come from outside or from a source and join the best queue of a list.
use Rattle.std.specs.Prelude.{◌≡◌, ◌≢◌, ◌⊎◌, ℕ, ◌+◌, ◌-◌, ◌*◌, ◌<◌, ◌≤◌, List, [], length, get_or, slice_index, slice_set, Option, Some, None, Bool, true, false, not, ◌&&◌, ◌||◌, nat_eq, nat_le, nat_lt, is_none, if◌then◌else◌}
use Rattle.std.specs.Bool.{then_some}
use Rattle.psi_event.specs.Choice.{first_some}
use Rattle.psi_route.specs.declared.parts.Source.{Source}
use Rattle.psi_route.specs.declared.parts.Full.{Full}
use Rattle.psi_route.specs.declared.parts.Full.TheVariants.{Lost, Stay}

-- what a route is made of; each target has a table of its own, or there are no tables
pub record Shape : Type 0 where
  pub caps : List ℕ
  pub source : Option Source
  pub size : ℕ
  pub targets : List ℕ
  pub tables : List (List ℕ)
  pub full : Full

-- a route by places, the numbers of the targets in their order: the queue of a place, the capacity of a queue, the key of a place at a
-- number of customers in its queue; the source serves from the least number on, and where there is no source its queue is past the last
pub record Routing : Type 0 where
  pub queues : ℕ
  pub places : ℕ
  pub size : ℕ
  pub queue : ℕ → ℕ
  pub cap : ℕ → ℕ
  pub key : ℕ → ℕ → ℕ
  pub source : ℕ
  pub least : ℕ
  pub lost : Bool

-- the value of a target's table at a number of customers, and 0 without tables
abbrev pub weight : Shape → ℕ → ℕ → ℕ
weight s i v = slice_index (get_or s.tables i []) v

abbrev pub source_queue : Option Source → ℕ → ℕ
source_queue None past = past
source_queue (Some source) past = source.queue

abbrev pub source_least : Option Source → ℕ
source_least None = 0
source_least (Some source) = source.k

abbrev pub is_lost : Full → Bool
is_lost Lost = true
is_lost Stay = false

-- the route of a shape: its keys are ordered by the tables' values first, then by the places, of which there are at most 32
abbrev pub routing : Shape → Routing
routing s = record {
  queues = length s.caps;
  places = length s.targets;
  size = s.size;
  queue = λ i. slice_index s.targets i;
  cap = λ q. slice_index s.caps q;
  key = λ i v. 32 * weight s i v + i;
  source = source_queue s.source (length s.caps);
  least = source_least s.source;
  lost = is_lost s.full;
}

-- ---- what a route does

-- a route in a state
module _ (r : Routing) (x : List ℕ) where
  -- the target at a place has room for the customers who come
  abbrev pub has_room : ℕ → Bool
  has_room i = nat_le (slice_index x (r.queue i) + r.size) (r.cap (r.queue i))

  -- place i has room, and its key is less than that of place j
  abbrev pub beats : ℕ → ℕ → Bool
  beats j i = has_room i && nat_lt (r.key i (slice_index x (r.queue i))) (r.key j (slice_index x (r.queue j)))

  -- place j, where it has room and no place with room has a lesser key
  abbrev pub best_at : ℕ → Option ℕ
  best_at j = then_some (has_room j && is_none (first_some (λ i. then_some (beats j i) i) 0 r.places)) j

  -- the place with room whose key is the least, if any has room
  unfoldable pub best : Option ℕ
  best = first_some best_at 0 r.places

  -- one customer leaves the source, if there is one
  abbrev pub taken : List ℕ
  taken = slice_set x r.source (slice_index x r.source - 1)

  -- customers join the chosen place; where there is none, one leaves the source if it is lost or the list is empty
  abbrev pub moved : Option ℕ → List ℕ
  moved (Some j) = slice_set taken (r.queue j) (slice_index x (r.queue j) + r.size)
  moved None = if r.lost || nat_eq r.places 0 then taken else x

  -- where the source serves, customers move to the best place
  unfoldable pub act : List ℕ
  act = if nat_le r.least (slice_index x r.source) then moved best else x

-- what the route of a shape does to a state
unfoldable pub routed : Shape → List ℕ → List ℕ
routed s x = act (routing s) x

-- ---- the same in relations

-- the targets are different queues and none of them the source, and keys of different places differ
pub record IsRouting (r : Routing) : Type 0 where
  pub is_queue : (i : ℕ) → i < r.places → r.queue i < r.queues
  pub apart : (i j : ℕ) → i < r.places → j < r.places → r.queue i ≡ r.queue j → i ≡ j
  pub no_source : (i : ℕ) → i < r.places → r.queue i ≢ r.source
  pub differ : (i j v w : ℕ) → i < r.places → j < r.places → i ≢ j → r.key i v ≢ r.key j w
  pub sized : 1 ≤ r.size
  pub sourced : (r.source < r.queues) ⊎ (r.least ≡ 0)
  pub counts : r.source < r.queues → 1 ≤ r.least

abbrev pub HasRoom : Routing → ℕ → ℕ → Type 0
HasRoom r i v = v + r.size ≤ r.cap (r.queue i)

abbrev pub Lacks : Routing → ℕ → ℕ → Type 0
Lacks r i v = r.cap (r.queue i) < v + r.size

-- a route in a state
module _ (r : Routing) (x : List ℕ) where
  -- place j is the chosen one: it has room, and each other place lacks room or has a greater key
  pub record IsBest (j : ℕ) : Type 0 where
    pub place : j < r.places
    pub room : HasRoom r j (slice_index x (r.queue j))
    pub others : (i : ℕ) → i < r.places → i ≢ j
        → Lacks r i (slice_index x (r.queue i)) ⊎ (r.key j (slice_index x (r.queue j)) < r.key i (slice_index x (r.queue i)))

  -- place j is passed over: it lacks room, or another place has room and a lesser key
  abbrev pub IsPassed : ℕ → Type 0
  IsPassed j = Lacks r j (slice_index x (r.queue j))
      ⊎ ((i : ℕ) × (i < r.places) × (i ≢ j) × HasRoom r i (slice_index x (r.queue i))
      × (r.key i (slice_index x (r.queue i)) < r.key j (slice_index x (r.queue j))))

  -- a source that serves loses one: it is lost, the list is empty, or a place has room
  abbrev pub Leaves : Type 0
  Leaves = (r.lost ≡ true) ⊎ (r.places ≡ 0) ⊎ ((i : ℕ) × (i < r.places) × HasRoom r i (slice_index x (r.queue i)))

  -- a source that serves keeps all: there are places, and none has room
  abbrev pub Remains : Type 0
  Remains = (r.lost ≡ false) × (0 < r.places) × ((i : ℕ) → i < r.places → Lacks r i (slice_index x (r.queue i)))

  -- y is what the route makes of x
  pub record Routed (y : List ℕ) : Type 0 where
    pub long : length y ≡ r.queues
    pub idle : slice_index x r.source < r.least → y ≡ x
    pub gains : (j : ℕ) → r.least ≤ slice_index x r.source → IsBest j
        → slice_index y (r.queue j) ≡ slice_index x (r.queue j) + r.size
    pub stays : (j : ℕ) → j < r.places → IsPassed j → slice_index y (r.queue j) ≡ slice_index x (r.queue j)
    pub takes : r.source < r.queues → r.least ≤ slice_index x r.source → Leaves → slice_index y r.source + 1 ≡ slice_index x r.source
    pub keeps : Remains → slice_index y r.source ≡ slice_index x r.source
    pub others : (p : ℕ) → p ≢ r.source → ((i : ℕ) → i < r.places → r.queue i ≢ p) → slice_index y p ≡ slice_index x p

-- ---- where a route of size 1 breaks the order of states

-- one more customer at place a, from v on, takes its key from above that of place b with w to below it
abbrev pub crosses : Routing → ℕ → ℕ → ℕ → ℕ → Bool
crosses r a b v w = not (nat_eq a b) && nat_lt (v + 1) (r.cap (r.queue a)) && nat_lt w (r.cap (r.queue b))
    && nat_lt (r.key a (v + 1)) (r.key b w) && nat_lt (r.key b w) (r.key a v)

pub record Crosses (r : Routing) (a b v w : ℕ) : Type 0 where
  pub first : a < r.places
  pub second : b < r.places
  pub two : a ≢ b
  pub room : v + 1 < r.cap (r.queue a)
  pub room_b : w < r.cap (r.queue b)
  pub falls : r.key a (v + 1) < r.key b w
  pub above : r.key b w < r.key a v

-- a route of this shape
module _ (s : Shape) where
  -- the state in which places a and b hold v and w customers, and every other queue is full
  abbrev pub full_but : ℕ → ℕ → ℕ → ℕ → List ℕ
  full_but a b v w = slice_set (slice_set s.caps (slice_index s.targets b) w) (slice_index s.targets a) v

  -- the pair made of the two places and their numbers of customers
  abbrev pub pair_of : ℕ → ℕ → ℕ → ℕ → List ℕ × List ℕ
  pair_of a b v w = (full_but a b v w, full_but a b (v + 1) w)

  -- the pair of the least w, of the least v, of the least b, of the least a, at which keys cross
  abbrev pub pair_at : ℕ → ℕ → ℕ → ℕ → Option (List ℕ × List ℕ)
  pair_at a b v w = then_some (crosses (routing s) a b v w) (pair_of a b v w)

  unfoldable pub pair_from : ℕ → ℕ → ℕ → Option (List ℕ × List ℕ)
  pair_from a b v = first_some (λ w. pair_at a b v w) 0 (slice_index s.caps (slice_index s.targets b))

  unfoldable pub pair_between : ℕ → ℕ → Option (List ℕ × List ℕ)
  pair_between a b = first_some (λ v. pair_from a b v) 0 (slice_index s.caps (slice_index s.targets a))

  unfoldable pub pair_behind : ℕ → Option (List ℕ × List ℕ)
  pair_behind a = first_some (λ b. pair_between a b) 0 (length s.targets)

  unfoldable pub first_pair : Option (List ℕ × List ℕ)
  first_pair = first_some (λ a. pair_behind a) 0 (length s.targets)

  -- every queue but the first target is full; there the customers just have room, and one more is too many
  abbrev pub batch_pair : List ℕ × List ℕ
  batch_pair =
      let q = slice_index s.targets 0 in
      (slice_set s.caps q (slice_index s.caps q - s.size), slice_set s.caps q (slice_index s.caps q - s.size + 1))

  -- two states whose order the route breaks, if there are any
  unfoldable pub upset_of : Option (List ℕ × List ℕ)
  upset_of = if nat_le 2 s.size then Some batch_pair else first_pair
