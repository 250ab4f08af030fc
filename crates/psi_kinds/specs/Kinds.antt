-- What each kind of event does to a state, under the capacities of the network's queues.
use Rattle.std.specs.Prelude.{◌≡◌, ℕ, suc, ◌+◌, ◌-◌, List, [], ◌∷◌, Bool, true, ◌&&◌, ◌||◌, nat_le, nat_lt, nat_eq, if◌then◌else◌, Option, Some, None, IfSome, slice_index, slice_index_or, slice_set, EachIndex, ◌<◌, length}
use Rattle.std.specs.List.{list_all}
use Rattle.std.specs.Option.{option_map}
use Rattle.psi_state.specs.State.{IsBelow}
use Rattle.psi_guard.specs.Guarding.{guarded}
pub use Rattle.psi_route.specs.Accepted.{IsSource}
use Rattle.psi_route.specs.declared.Source.{Source}
use Rattle.psi_route.specs.declared.Full.{Full}
use Rattle.psi_route.specs.declared.Full.TheVariants.{Lost, Stay}
use Rattle.psi_kinds.specs.declared.kinds.Kind.{Kind}
use Rattle.psi_kinds.specs.declared.kinds.Kind.TheVariants.{Arrival, Service, Index, Batch, Negative, Fork, Join, Guarded}

-- queue q holds a customer
abbrev pub is_held : List ℕ → ℕ → Bool
is_held x q = nat_le 1 (slice_index x q)

-- the source's queue holds as many customers as it takes to serve
abbrev pub serves : Source → List ℕ → Bool
serves source x = nat_le source.k (slice_index x source.queue)

-- a queue that can be chosen by index: its table's value at what it holds, its place in the list, and its number
pub record Offer : Type 0 where
  pub value : ℕ
  pub place : ℕ
  pub queue : ℕ

-- the pair of value and place of one is below that of another
abbrev pub is_less : Offer → Offer → Bool
is_less a b = nat_lt a.value b.value || (nat_eq a.value b.value && nat_lt a.place b.place)

-- the one of an offer and another, if there is one, with the lesser pair
abbrev pub lesser : Offer → Option Offer → Option Offer
lesser a None = Some a
lesser a (Some b) = if is_less b a then Some b else Some a

-- the one with the least pair
abbrev pub least_of : List Offer → Option Offer
least_of [] = None
least_of (a ∷ rest) = lesser a (least_of rest)

-- queue q gains b customers
abbrev pub gain : ℕ → ℕ → List ℕ → List ℕ
gain q b x = slice_set x q (slice_index x q + b)

-- queue q loses b customers, or all where it holds fewer
abbrev pub lose : ℕ → ℕ → List ℕ → List ℕ
lose q b x = slice_set x q (slice_index x q - b)

-- the queue that was chosen gains b; nothing changes where none was
abbrev pub gain_chosen : Option ℕ → ℕ → List ℕ → List ℕ
gain_chosen None b x = x
gain_chosen (Some q) b x = gain q b x

-- one customer leaves the source, and the queue that was chosen gains b; where none was chosen, the customer leaves the network if the list of queues is empty or full queues lose it, and else stays
abbrev pub go_on : Source → List ℕ → Full → ℕ → Option ℕ → List ℕ → List ℕ
go_on from to full b (Some q) x = gain q b (lose from.queue 1 x)
go_on from [] full b None x = lose from.queue 1 x
go_on from (q ∷ queues) Lost b None x = lose from.queue 1 x
go_on from (q ∷ queues) Stay b None x = x

-- there is no source, or it serves
abbrev pub may_serve : Option Source → List ℕ → Bool
may_serve None x = true
may_serve (Some source) x = serves source x

-- one customer leaves the source, if there is one
abbrev pub leave : Option Source → List ℕ → List ℕ
leave None x = x
leave (Some source) x = lose source.queue 1 x

-- every queue of the list gains a customer
abbrev pub gain_each : List ℕ → List ℕ → List ℕ
gain_each [] x = x
gain_each (q ∷ queues) x = gain_each queues (gain q 1 x)

-- every queue of the list loses a customer
abbrev pub lose_each : List ℕ → List ℕ → List ℕ
lose_each [] x = x
lose_each (q ∷ queues) x = lose_each queues (lose q 1 x)

-- a network whose queues have these capacities
module _ (caps : List ℕ) where
  -- queue q has room for b more customers
  abbrev pub has_room : ℕ → List ℕ → ℕ → Bool
  has_room b x q = nat_le (slice_index x q + b) (slice_index caps q)

  -- the first queue of a list with room for b, or none
  abbrev pub first_with_room : List ℕ → ℕ → List ℕ → Option ℕ
  first_with_room [] b x = None
  first_with_room (q ∷ queues) b x = if has_room b x q then Some q else first_with_room queues b x

  -- the offers of those queues of a list that have room for b; the first queue of the list has this place, the next one the next, and a queue's table stands at its place
  abbrev pub offers : List ℕ → List (List ℕ) → ℕ → List ℕ → ℕ → List Offer
  offers [] tables b x place = []
  offers (q ∷ queues) tables b x place =
      if has_room b x q
      then record { value = slice_index (slice_index_or tables place []) (slice_index x q); place = place; queue = q } ∷ offers queues tables b x (suc place)
      else offers queues tables b x (suc place)

  -- among the queues of a list with room for b, the one with the least pair of its table's value and its place, or none
  abbrev pub best : List ℕ → List (List ℕ) → ℕ → List ℕ → Option ℕ
  best queues tables b x = option_map (λ o. o.queue) (least_of (offers queues tables b x 0))

  -- there is no queue to be joined, or it has room for one
  abbrev pub may_join : Option ℕ → List ℕ → Bool
  may_join None x = true
  may_join (Some q) x = has_room 1 x q

  -- what a kind of event does to a state
  unfoldable pub do_kind : Kind → List ℕ → List ℕ
  do_kind (Arrival to) x = gain_chosen (first_with_room to 1 x) 1 x
  do_kind (Service from to full) x = if serves from x then go_on from to full 1 (first_with_room to 1 x) x else x
  do_kind (Index None to table full size) x = gain_chosen (best to table size x) size x
  do_kind (Index (Some from) to table full size) x = if serves from x then go_on from to full size (best to table size x) x else x
  do_kind (Batch to size) x = gain_chosen (first_with_room to size x) size x
  do_kind (Negative from on amount) x = if may_serve from x then lose on amount (leave from x) else x
  do_kind (Fork from to) x = if may_serve from x && list_all (has_room 1 x) to then gain_each to (leave from x) else x
  do_kind (Join from to) x = if list_all (is_held x) from && may_join to x then gain_chosen to 1 (lose_each from x) else x
  do_kind (Guarded parts) x = guarded parts x

  -- each queue of the list is one of those with these capacities
  abbrev pub AreQueues : List ℕ → Type 0
  AreQueues queues = EachIndex queues (λ i. slice_index queues i < length caps)

  -- the queues and the source that a kind names are among those with these capacities; parts are judged by themselves
  abbrev pub IsKindOf : Kind → Type 0
  IsKindOf (Arrival to) = AreQueues to
  IsKindOf (Service from to full) = IsSource caps from × AreQueues to
  IsKindOf (Index from to table full size) = IfSome from (λ source. IsSource caps source) × AreQueues to
  IsKindOf (Batch to size) = AreQueues to
  IsKindOf (Negative from on amount) = IfSome from (λ source. IsSource caps source) × (on < length caps)
  IsKindOf (Fork from to) = IfSome from (λ source. IsSource caps source) × AreQueues to
  IsKindOf (Join from to) = AreQueues from × IfSome to (λ q. q < length caps)
  IsKindOf (Guarded parts) = Unit {0}

  -- the function does to every state of the capacities what the kind does
  pub record Does (f : List ℕ → List ℕ) (kind : Kind) : Type 0 where
    pub each : (x : List ℕ) → IsBelow x caps → f x ≡ do_kind kind x
