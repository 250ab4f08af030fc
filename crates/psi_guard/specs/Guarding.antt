-- Guarded events: what they make of a state, and the two states by which they break the order.
use Rattle.std.specs.Prelude.{◌≡◌, ℕ, suc, ◌+◌, ◌-◌, ◌<◌, min, max, ℤ, pos, negsuc, Bool, ◌&&◌, not, nat_eq, nat_lt, nat_le, if◌then◌else◌, List, [], ◌∷◌, length, map, slice_index, slice_set, Option, Some, None}
use Rattle.std.specs.List.{list_all}
use Rattle.psi_state.specs.State.{numbers_from}
use Rattle.psi_event.specs.Choice.{first_or, first_some}
use Rattle.psi_guard.specs.declared.parts.Part.{Part}

-- a number of customers with a shift added, and 0 where that is below 0
abbrev pub shifted : ℤ → ℕ → ℕ
shifted (pos n) v = v + n
shifted (negsuc n) v = v - suc n

-- what a part makes of its queue's number
abbrev pub moved : Part → ℕ → ℕ
moved part v = min part.ceiling (max part.floor (shifted part.shift v))

-- whether a number is from the part's least to its most
abbrev pub allows : Part → ℕ → Bool
allows part v = nat_le part.least v && nat_le v part.most

-- whether every named queue holds a number from its least to its most
abbrev pub all_allow : List Part → List ℕ → Bool
all_allow parts x = list_all (λ part. allows part (slice_index x part.queue)) parts

-- what becomes of the number of queue q: a queue that is named moves, and each other one stays
abbrev pub next : List Part → ℕ → ℕ → ℕ
next [] q v = v
next (part ∷ parts) q v = if nat_eq part.queue q then moved part v else next parts q v

-- a list of numbers, each changed by its place
abbrev pub map_places : (ℕ → ℕ → ℕ) → ℕ → List ℕ → List ℕ
map_places f first [] = []
map_places f first (v ∷ x) = f first v ∷ map_places f (suc first) x

-- where every named queue holds a number from its least to its most, each named queue moves; otherwise nothing changes
unfoldable pub guarded : List Part → List ℕ → List ℕ
guarded parts x = if all_allow parts x then map_places (next parts) 0 x else x

-- a queue that no part names may hold any number and keeps it
abbrev pub free_part : ℕ → ℕ → Part
free_part cap q = record { queue = q; least = 0; most = cap; shift = pos 0; floor = 0; ceiling = cap }

-- the part of queue q
abbrev pub part_of : List ℕ → List Part → ℕ → Part
part_of caps [] q = free_part (slice_index caps q) q
part_of caps (part ∷ parts) q = if nat_eq part.queue q then part else part_of caps parts q

-- both states with v customers in queue q
abbrev pub both_with : ℕ → ℕ → List ℕ × List ℕ → List ℕ × List ℕ
both_with q v pair = (slice_set pair.0 q v, slice_set pair.1 q v)

-- the first answer over the queues, by their numbers
abbrev pub over_queues : {A : Type 0} → List ℕ → (ℕ → Option A) → Option A
over_queues caps f = first_some f 0 (length caps)

-- each answer that a test may give at a queue is that of f
abbrev pub AnswersAs : {A : Type 0} → List ℕ → (ℕ → Option A → Type 0) → (ℕ → Option A) → Type 0
AnswersAs {A} caps may_give f = (p : ℕ) (o : Option A) → p < length caps → may_give p o → o ≡ f p

-- the first answer over two queues: the least first queue, then the least second one
abbrev pub over_pairs : {A : Type 0} → List ℕ → (ℕ → ℕ → Option A) → Option A
over_pairs caps f = over_queues caps (λ p. over_queues caps (f p))

-- a guarded event with these parts, under these capacities
module _ (caps : List ℕ) (parts : List Part) where
  -- the state in which each queue holds its least
  abbrev pub leasts : List ℕ
  leasts = map (λ q. (part_of caps parts q).least) (numbers_from 0 (length caps))

  -- queue p at its most and with one more, every other queue at its least
  abbrev pub around_most : ℕ → List ℕ × List ℕ
  around_most p =
      (slice_set leasts p (part_of caps parts p).most, slice_set leasts p ((part_of caps parts p).most + 1))

  -- queue p with one less than its least and at its least, every other queue at its least
  abbrev pub around_least : ℕ → List ℕ × List ℕ
  around_least p =
      (slice_set leasts p ((part_of caps parts p).least - 1), leasts)

  -- whether queue p can hold more than its most
  abbrev pub exceeds : ℕ → Bool
  exceeds p = nat_lt (part_of caps parts p).most (slice_index caps p)

  -- whether queue p can hold less than its least
  abbrev pub falls_short : ℕ → Bool
  falls_short p = nat_lt 0 (part_of caps parts p).least

  -- queue p at its most moves past what it keeps with one more
  abbrev pub own_above : ℕ → Option (List ℕ × List ℕ)
  own_above p =
      if exceeds p && nat_lt ((part_of caps parts p).most + 1) (moved (part_of caps parts p) (part_of caps parts p).most)
      then Some (around_most p) else None

  -- another queue q at its least rises, unless p holds more than its most
  abbrev pub other_above : ℕ → ℕ → Option (List ℕ × List ℕ)
  other_above p q =
      if exceeds p && (not (nat_eq p q) && nat_lt (part_of caps parts q).least (moved (part_of caps parts q) (part_of caps parts q).least))
      then Some (around_most p) else None

  -- queue p at its least moves below what it keeps with one less
  abbrev pub own_below : ℕ → Option (List ℕ × List ℕ)
  own_below p =
      if falls_short p && nat_lt (moved (part_of caps parts p) (part_of caps parts p).least) ((part_of caps parts p).least - 1)
      then Some (around_least p) else None

  -- another queue q at its most falls, unless p holds less than its least
  abbrev pub other_below : ℕ → ℕ → Option (List ℕ × List ℕ)
  other_below p q =
      if falls_short p && (not (nat_eq p q) && nat_lt (moved (part_of caps parts q) (part_of caps parts q).most) (part_of caps parts q).most)
      then Some (both_with q (part_of caps parts q).most (around_least p)) else None

  -- the one pair of states that shows that a guarded event doesn't keep the order: that of the first of four tests that succeeds
  unfoldable pub upset_of : Option (List ℕ × List ℕ)
  upset_of =
      first_or (over_queues caps own_above)
      (first_or (over_pairs caps other_above)
      (first_or (over_queues caps own_below) (over_pairs caps other_below)))
