-- What kinds make of small states, worked out by hand and computed by the checker.
use Rattle.std.proofs.Common.{◌≡◌, ℕ, List, [], ◌∷◌, Option, Some, None, map, pos, negsuc, ℤ, refl}
use Rattle.psi_state.specs.State.{box}
use Rattle.psi_state.specs.Sets.{image}
use Rattle.psi_state.specs.Hull.{corners}
use Rattle.psi_event.specs.Choice.{first_some}
use Rattle.psi_guard.specs.declared.Part.{Part}
use Rattle.psi_guard.specs.Guarding.{guarded}
use Rattle.psi_guard.specs.Guarding as guard
use Rattle.psi_route.specs.declared.parts.Full.TheVariants.{Lost, Stay}
use Rattle.psi_route.specs.Routing.{pair_from, pair_between, pair_behind, first_pair}
use Rattle.psi_route.specs.Routing as route
use Rattle.psi_kinds.specs.declared.kinds.Kind.{Kind}
use Rattle.psi_kinds.specs.declared.kinds.Kind.TheVariants.{Arrival, Service, Index, Batch, Negative, Fork, Join, Guarded}
use Rattle.psi_kinds.specs.declared.refusals.KindRefusal.{KindRefusal}
use Rattle.psi_kinds.specs.declared.refusals.KindRefusal.TheVariants.{SelfTarget, Repeated, TableLength, SizeRange, Empty, PartRange, EmptyGuard}
use Rattle.psi_kinds.specs.Kinds.{do_kind}
use Rattle.psi_kinds.specs.Forms.{upset_of}
use Rattle.psi_kinds.specs.Refusals.{refusal_of}

-- an arrival goes to the first of two queues with room for one each, and on to the second one where the first is full
overflow : map (do_kind (1 ∷ 1 ∷ []) (Arrival (0 ∷ 1 ∷ []))) ((0 ∷ 0 ∷ []) ∷ (1 ∷ 0 ∷ []) ∷ (1 ∷ 1 ∷ []) ∷ [])
    ≡ (1 ∷ 0 ∷ []) ∷ (1 ∷ 1 ∷ []) ∷ (1 ∷ 1 ∷ []) ∷ []
unfolding do_kind
overflow = refl

-- a served customer stays where the next queue is full
blocking : map (do_kind (2 ∷ 2 ∷ []) (Service (record { queue = 0; k = 1 }) (1 ∷ []) Stay)) ((1 ∷ 0 ∷ []) ∷ (1 ∷ 2 ∷ []) ∷ (0 ∷ 1 ∷ []) ∷ [])
    ≡ (0 ∷ 1 ∷ []) ∷ (1 ∷ 2 ∷ []) ∷ (0 ∷ 1 ∷ []) ∷ []
unfolding do_kind
blocking = refl

-- an index that falls past another
falling : map (do_kind (2 ∷ 2 ∷ []) (Index None (0 ∷ 1 ∷ []) ((5 ∷ 0 ∷ []) ∷ (3 ∷ 3 ∷ []) ∷ []) Lost 1)) ((0 ∷ 0 ∷ []) ∷ (0 ∷ 1 ∷ []) ∷ (1 ∷ 0 ∷ []) ∷ (1 ∷ 1 ∷ []) ∷ [])
    ≡ (0 ∷ 1 ∷ []) ∷ (0 ∷ 2 ∷ []) ∷ (2 ∷ 0 ∷ []) ∷ (2 ∷ 1 ∷ []) ∷ []
unfolding do_kind
falling = refl

-- two customers come to a queue with room for three, together or not at all
batch : map (do_kind (3 ∷ []) (Batch (0 ∷ []) 2)) ((0 ∷ []) ∷ (1 ∷ []) ∷ (2 ∷ []) ∷ (3 ∷ []) ∷ [])
    ≡ (2 ∷ []) ∷ (3 ∷ []) ∷ (2 ∷ []) ∷ (3 ∷ []) ∷ []
unfolding do_kind
batch = refl

-- a customer of the first queue takes one from the second, if there is one
negative : map (do_kind (1 ∷ 1 ∷ []) (Negative (Some (record { queue = 0; k = 1 })) 1 1)) ((0 ∷ 0 ∷ []) ∷ (0 ∷ 1 ∷ []) ∷ (1 ∷ 0 ∷ []) ∷ (1 ∷ 1 ∷ []) ∷ [])
    ≡ (0 ∷ 0 ∷ []) ∷ (0 ∷ 1 ∷ []) ∷ (0 ∷ 0 ∷ []) ∷ (0 ∷ 0 ∷ []) ∷ []
unfolding do_kind
negative = refl

-- a customer comes to both queues, where both have room
fork : map (do_kind (1 ∷ 1 ∷ []) (Fork None (0 ∷ 1 ∷ []))) ((0 ∷ 0 ∷ []) ∷ (0 ∷ 1 ∷ []) ∷ [])
    ≡ (1 ∷ 1 ∷ []) ∷ (0 ∷ 1 ∷ []) ∷ []
unfolding do_kind
fork = refl

-- one customer leaves the first queue for the second, where that has room
join : map (do_kind (2 ∷ 2 ∷ []) (Join (0 ∷ []) (Some 1))) ((0 ∷ 0 ∷ []) ∷ (2 ∷ 0 ∷ []) ∷ (2 ∷ 2 ∷ []) ∷ [])
    ≡ (0 ∷ 0 ∷ []) ∷ (1 ∷ 1 ∷ []) ∷ (2 ∷ 2 ∷ []) ∷ []
unfolding do_kind
join = refl

-- ---- the pairs by which kinds break the order, and the boxes around what they make of all states

-- an arrival keeps the order
overflow-pair : upset_of (1 ∷ 1 ∷ []) (Arrival (0 ∷ 1 ∷ [])) ≡ None
unfolding upset_of route.upset_of first_pair pair_behind pair_between pair_from first_some
overflow-pair = refl

-- join the shorter of two queues: it keeps the order
shortest : map (do_kind (2 ∷ 2 ∷ []) (Index None (0 ∷ 1 ∷ []) ((0 ∷ 1 ∷ []) ∷ (0 ∷ 1 ∷ []) ∷ []) Lost 1)) ((0 ∷ 0 ∷ []) ∷ (1 ∷ 0 ∷ []) ∷ (1 ∷ 1 ∷ []) ∷ (2 ∷ 0 ∷ []) ∷ (2 ∷ 2 ∷ []) ∷ [])
    ≡ (1 ∷ 0 ∷ []) ∷ (1 ∷ 1 ∷ []) ∷ (2 ∷ 1 ∷ []) ∷ (2 ∷ 1 ∷ []) ∷ (2 ∷ 2 ∷ []) ∷ []
unfolding do_kind
shortest = refl

shortest-pair : upset_of (2 ∷ 2 ∷ []) (Index None (0 ∷ 1 ∷ []) ((0 ∷ 1 ∷ []) ∷ (0 ∷ 1 ∷ []) ∷ []) Lost 1) ≡ None
unfolding upset_of route.upset_of first_pair pair_behind pair_between pair_from first_some
shortest-pair = refl

falling-pair : upset_of (2 ∷ 2 ∷ []) (Index None (0 ∷ 1 ∷ []) ((5 ∷ 0 ∷ []) ∷ (3 ∷ 3 ∷ []) ∷ []) Lost 1) ≡ Some (0 ∷ 0 ∷ [], 1 ∷ 0 ∷ [])
unfolding upset_of route.upset_of first_pair pair_behind pair_between pair_from first_some
falling-pair = refl

falling-box : corners (image (do_kind (2 ∷ 2 ∷ []) (Index None (0 ∷ 1 ∷ []) ((5 ∷ 0 ∷ []) ∷ (3 ∷ 3 ∷ []) ∷ []) Lost 1)) (box (0 ∷ 0 ∷ []) (1 ∷ 1 ∷ [])))
    ≡ record { lo = 0 ∷ 0 ∷ []; hi = 2 ∷ 2 ∷ [] }
unfolding do_kind
falling-box = refl

batch-pair : upset_of (3 ∷ []) (Batch (0 ∷ []) 2) ≡ Some (1 ∷ [], 2 ∷ [])
unfolding upset_of route.upset_of
batch-pair = refl

batch-box : corners (image (do_kind (3 ∷ []) (Batch (0 ∷ []) 2)) (box (0 ∷ []) (2 ∷ []))) ≡ record { lo = 2 ∷ []; hi = 3 ∷ [] }
unfolding do_kind
batch-box = refl

negative-pair : upset_of (1 ∷ 1 ∷ []) (Negative (Some (record { queue = 0; k = 1 })) 1 1) ≡ Some (0 ∷ 1 ∷ [], 1 ∷ 1 ∷ [])
unfolding upset_of guard.upset_of first_some
negative-pair = refl

negative-box : corners (image (do_kind (1 ∷ 1 ∷ []) (Negative (Some (record { queue = 0; k = 1 })) 1 1)) (box (0 ∷ 0 ∷ []) (1 ∷ 1 ∷ [])))
    ≡ record { lo = 0 ∷ 0 ∷ []; hi = 0 ∷ 1 ∷ [] }
unfolding do_kind
negative-box = refl

fork-pair : upset_of (1 ∷ 1 ∷ []) (Fork None (0 ∷ 1 ∷ [])) ≡ Some (0 ∷ 0 ∷ [], 1 ∷ 0 ∷ [])
unfolding upset_of guard.upset_of first_some
fork-pair = refl

-- a join of two queues that leads nowhere: it happens only where both hold a customer
join-pair : upset_of (1 ∷ 1 ∷ []) (Join (0 ∷ 1 ∷ []) None) ≡ Some (0 ∷ 1 ∷ [], 1 ∷ 1 ∷ [])
unfolding upset_of guard.upset_of first_some
join-pair = refl

-- ---- four steps of a network of two queues with room for one each: a fork twice, a customer who moves on, and one who leaves

abbrev splits : List ℕ → List ℕ
splits = do_kind (1 ∷ 1 ∷ []) (Fork None (0 ∷ 1 ∷ []))

abbrev moves : List ℕ → List ℕ
moves = do_kind (1 ∷ 1 ∷ []) (Service (record { queue = 0; k = 1 }) (1 ∷ []) Stay)

abbrev leaves : List ℕ → List ℕ
leaves = do_kind (1 ∷ 1 ∷ []) (Service (record { queue = 0; k = 1 }) [] Lost)

-- the set of all states comes to one of them
sets : image splits (box (0 ∷ 0 ∷ []) (1 ∷ 1 ∷ [])) ∷ image splits ((0 ∷ 1 ∷ []) ∷ (1 ∷ 0 ∷ []) ∷ (1 ∷ 1 ∷ []) ∷ [])
    ∷ image moves ((0 ∷ 1 ∷ []) ∷ (1 ∷ 0 ∷ []) ∷ (1 ∷ 1 ∷ []) ∷ []) ∷ image leaves ((0 ∷ 1 ∷ []) ∷ (1 ∷ 1 ∷ []) ∷ []) ∷ []
    ≡ ((0 ∷ 1 ∷ []) ∷ (1 ∷ 0 ∷ []) ∷ (1 ∷ 1 ∷ []) ∷ []) ∷ ((0 ∷ 1 ∷ []) ∷ (1 ∷ 0 ∷ []) ∷ (1 ∷ 1 ∷ []) ∷ [])
    ∷ ((0 ∷ 1 ∷ []) ∷ (1 ∷ 1 ∷ []) ∷ []) ∷ ((0 ∷ 1 ∷ []) ∷ []) ∷ []
unfolding do_kind
sets = refl

-- the box of all states stays as it is until the last step, and then has two
boxes : map (λ (f : List ℕ → List ℕ). corners (image f (box (0 ∷ 0 ∷ []) (1 ∷ 1 ∷ [])))) (splits ∷ moves ∷ leaves ∷ [])
    ≡ record { lo = 0 ∷ 0 ∷ []; hi = 1 ∷ 1 ∷ [] } ∷ record { lo = 0 ∷ 0 ∷ []; hi = 1 ∷ 1 ∷ [] } ∷ record { lo = 0 ∷ 0 ∷ []; hi = 0 ∷ 1 ∷ [] } ∷ []
unfolding do_kind
boxes = refl

-- ---- second servers, and amounts and sizes above 1

-- the second server works where the queue holds two
second : map (do_kind (3 ∷ []) (Service (record { queue = 0; k = 2 }) [] Lost)) ((0 ∷ []) ∷ (1 ∷ []) ∷ (2 ∷ []) ∷ (3 ∷ []) ∷ [])
    ≡ (0 ∷ []) ∷ (1 ∷ []) ∷ (1 ∷ []) ∷ (2 ∷ []) ∷ []
unfolding do_kind
second = refl

-- its customer is lost where the next queue is full
second-lost : map (do_kind (3 ∷ 1 ∷ []) (Service (record { queue = 0; k = 2 }) (1 ∷ []) Lost)) ((1 ∷ 0 ∷ []) ∷ (2 ∷ 0 ∷ []) ∷ (2 ∷ 1 ∷ []) ∷ [])
    ≡ (1 ∷ 0 ∷ []) ∷ (1 ∷ 1 ∷ []) ∷ (1 ∷ 1 ∷ []) ∷ []
unfolding do_kind
second-lost = refl

-- or goes to the shorter of two
second-index : map (do_kind (2 ∷ 2 ∷ 2 ∷ []) (Index (Some (record { queue = 0; k = 2 })) (1 ∷ 2 ∷ []) ((0 ∷ 1 ∷ []) ∷ (0 ∷ 1 ∷ []) ∷ []) Stay 1))
    ((1 ∷ 0 ∷ 0 ∷ []) ∷ (2 ∷ 0 ∷ 0 ∷ []) ∷ (2 ∷ 1 ∷ 0 ∷ []) ∷ (2 ∷ 2 ∷ 2 ∷ []) ∷ [])
    ≡ (1 ∷ 0 ∷ 0 ∷ []) ∷ (1 ∷ 1 ∷ 0 ∷ []) ∷ (1 ∷ 1 ∷ 1 ∷ []) ∷ (2 ∷ 2 ∷ 2 ∷ []) ∷ []
unfolding do_kind
second-index = refl

-- or takes two from another queue, or all where it holds fewer
second-negative : map (do_kind (3 ∷ 2 ∷ []) (Negative (Some (record { queue = 0; k = 2 })) 1 2)) ((1 ∷ 2 ∷ []) ∷ (2 ∷ 1 ∷ []) ∷ (3 ∷ 2 ∷ []) ∷ (2 ∷ 0 ∷ []) ∷ [])
    ≡ (1 ∷ 2 ∷ []) ∷ (1 ∷ 0 ∷ []) ∷ (2 ∷ 0 ∷ []) ∷ (1 ∷ 0 ∷ []) ∷ []
unfolding do_kind
second-negative = refl

second-negative-pair : upset_of (3 ∷ 2 ∷ []) (Negative (Some (record { queue = 0; k = 2 })) 1 2) ≡ Some (1 ∷ 2 ∷ [], 2 ∷ 2 ∷ [])
unfolding upset_of guard.upset_of first_some
second-negative-pair = refl

-- or becomes two customers
second-fork : map (do_kind (2 ∷ 1 ∷ 1 ∷ []) (Fork (Some (record { queue = 0; k = 2 })) (1 ∷ 2 ∷ []))) ((1 ∷ 0 ∷ 0 ∷ []) ∷ (2 ∷ 0 ∷ 0 ∷ []) ∷ (2 ∷ 1 ∷ 0 ∷ []) ∷ [])
    ≡ (1 ∷ 0 ∷ 0 ∷ []) ∷ (1 ∷ 1 ∷ 1 ∷ []) ∷ (2 ∷ 1 ∷ 0 ∷ []) ∷ []
unfolding do_kind
second-fork = refl

second-fork-pair : upset_of (2 ∷ 1 ∷ 1 ∷ []) (Fork (Some (record { queue = 0; k = 2 })) (1 ∷ 2 ∷ [])) ≡ Some (2 ∷ 0 ∷ 0 ∷ [], 2 ∷ 1 ∷ 0 ∷ [])
unfolding upset_of guard.upset_of first_some
second-fork-pair = refl

-- two leave, or all where there are fewer; without a source that keeps the order
two-leave : map (do_kind (3 ∷ []) (Negative None 0 2)) ((0 ∷ []) ∷ (1 ∷ []) ∷ (2 ∷ []) ∷ (3 ∷ []) ∷ []) ≡ (0 ∷ []) ∷ (0 ∷ []) ∷ (0 ∷ []) ∷ (1 ∷ []) ∷ []
unfolding do_kind
two-leave = refl

two-leave-pair : upset_of (3 ∷ []) (Negative None 0 2) ≡ None
unfolding upset_of guard.upset_of first_some
two-leave-pair = refl

-- two join the queue of least index with room for both
couple : map (do_kind (3 ∷ 3 ∷ []) (Index None (0 ∷ 1 ∷ []) ((4 ∷ 2 ∷ 0 ∷ []) ∷ (3 ∷ 3 ∷ 1 ∷ []) ∷ []) Lost 2)) ((0 ∷ 0 ∷ []) ∷ (1 ∷ 0 ∷ []) ∷ (2 ∷ 1 ∷ []) ∷ (2 ∷ 2 ∷ []) ∷ [])
    ≡ (0 ∷ 2 ∷ []) ∷ (3 ∷ 0 ∷ []) ∷ (2 ∷ 3 ∷ []) ∷ (2 ∷ 2 ∷ []) ∷ []
unfolding do_kind
couple = refl

couple-pair : upset_of (3 ∷ 3 ∷ []) (Index None (0 ∷ 1 ∷ []) ((4 ∷ 2 ∷ 0 ∷ []) ∷ (3 ∷ 3 ∷ 1 ∷ []) ∷ []) Lost 2) ≡ Some (1 ∷ 3 ∷ [], 2 ∷ 3 ∷ [])
unfolding upset_of route.upset_of
couple-pair = refl

-- ---- guarded kinds

abbrev part : ℕ → ℕ → ℕ → ℤ → ℕ → ℕ → Part
part queue least most shift floor ceiling = record { queue = queue; least = least; most = most; shift = shift; floor = floor; ceiling = ceiling }

-- room for five: up to two customers become five
jump : map (do_kind (5 ∷ []) (Guarded (part 0 0 2 (pos 0) 5 5 ∷ []))) (box (0 ∷ []) (5 ∷ [])) ≡ (5 ∷ []) ∷ (5 ∷ []) ∷ (5 ∷ []) ∷ (3 ∷ []) ∷ (4 ∷ []) ∷ (5 ∷ []) ∷ []
unfolding do_kind guarded
jump = refl

jump-box : corners (image (do_kind (5 ∷ []) (Guarded (part 0 0 2 (pos 0) 5 5 ∷ []))) (box (1 ∷ []) (4 ∷ []))) ≡ record { lo = 3 ∷ []; hi = 5 ∷ [] }
unfolding do_kind guarded
jump-box = refl

jump-pair : upset_of (5 ∷ []) (Guarded (part 0 0 2 (pos 0) 5 5 ∷ [])) ≡ Some (2 ∷ [], 3 ∷ [])
unfolding upset_of guard.upset_of first_some
jump-pair = refl

-- three and more become one
clear : map (do_kind (5 ∷ []) (Guarded (part 0 3 5 (pos 0) 0 1 ∷ []))) (box (0 ∷ []) (5 ∷ [])) ≡ (0 ∷ []) ∷ (1 ∷ []) ∷ (2 ∷ []) ∷ (1 ∷ []) ∷ (1 ∷ []) ∷ (1 ∷ []) ∷ []
unfolding do_kind guarded
clear = refl

clear-pair : upset_of (5 ∷ []) (Guarded (part 0 3 5 (pos 0) 0 1 ∷ [])) ≡ Some (2 ∷ [], 3 ∷ [])
unfolding upset_of guard.upset_of first_some
clear-pair = refl

-- a reset keeps the order
reset-pair : upset_of (5 ∷ []) (Guarded (part 0 0 5 (pos 0) 0 0 ∷ [])) ≡ None
unfolding upset_of guard.upset_of first_some
reset-pair = refl

-- where the first queue holds a customer, it loses one and the second gains two, up to one in all
both : map (do_kind (2 ∷ 2 ∷ []) (Guarded (part 0 1 2 (negsuc 0) 0 2 ∷ part 1 0 2 (pos 2) 0 1 ∷ []))) ((1 ∷ 0 ∷ []) ∷ (2 ∷ 2 ∷ []) ∷ (0 ∷ 2 ∷ []) ∷ [])
    ≡ (0 ∷ 1 ∷ []) ∷ (1 ∷ 1 ∷ []) ∷ (0 ∷ 2 ∷ []) ∷ []
unfolding do_kind guarded
both = refl

both-pair : upset_of (2 ∷ 2 ∷ []) (Guarded (part 0 1 2 (negsuc 0) 0 2 ∷ part 1 0 2 (pos 2) 0 1 ∷ [])) ≡ Some (0 ∷ 2 ∷ [], 1 ∷ 2 ∷ [])
unfolding upset_of guard.upset_of first_some
both-pair = refl

-- ---- refusals, in a network of two queues with room for two and three customers

abbrev refusals : List Kind → List (Option KindRefusal)
refusals kinds = map (refusal_of (2 ∷ 3 ∷ [])) kinds

-- a list has no queue, or there is no part; that is judged first
nowhere : refusals (Arrival [] ∷ Index None [] [] Lost 0 ∷ Batch [] 0 ∷ Fork None [] ∷ Join [] None ∷ Guarded [] ∷ [])
    ≡ Some Empty ∷ Some Empty ∷ Some Empty ∷ Some Empty ∷ Some Empty ∷ Some Empty ∷ []
unfolding refusal_of
nowhere = refl

-- a queue stands twice, which is judged before the source, or in two parts
twice : refusals (Arrival (1 ∷ 1 ∷ []) ∷ Service (record { queue = 0; k = 2 }) (0 ∷ 0 ∷ []) Stay ∷ Guarded (part 0 0 2 (pos 1) 0 2 ∷ part 0 0 2 (pos 1) 0 2 ∷ []) ∷ [])
    ≡ Some Repeated ∷ Some Repeated ∷ Some Repeated ∷ []
unfolding refusal_of
twice = refl

-- the source is in the list, or loses customers twice, or a join leads to its own list; that is judged before tables and amounts
itself : refusals (Service (record { queue = 0; k = 2 }) (1 ∷ 0 ∷ []) Stay ∷ Index (Some (record { queue = 1; k = 1 })) (1 ∷ []) [] Lost 0
    ∷ Negative (Some (record { queue = 0; k = 1 })) 0 0 ∷ Join (0 ∷ 1 ∷ []) (Some 1) ∷ [])
    ≡ Some SelfTarget ∷ Some SelfTarget ∷ Some SelfTarget ∷ Some SelfTarget ∷ []
unfolding refusal_of
itself = refl

-- a table is missing, is too short, is too long, or is one too many; that is judged before the size
unfit : refusals (Index None (0 ∷ 1 ∷ []) ((5 ∷ 0 ∷ []) ∷ []) Lost 0 ∷ Index None (0 ∷ 1 ∷ []) ((5 ∷ 0 ∷ []) ∷ (3 ∷ []) ∷ []) Lost 0
    ∷ Index None (0 ∷ []) ((5 ∷ 0 ∷ 1 ∷ []) ∷ []) Lost 0 ∷ Index None (0 ∷ []) ((5 ∷ 0 ∷ []) ∷ (3 ∷ 3 ∷ 3 ∷ []) ∷ []) Lost 0 ∷ [])
    ≡ Some TableLength ∷ Some TableLength ∷ Some TableLength ∷ Some TableLength ∷ []
unfolding refusal_of
unfit = refl

-- a size is 0, above a capacity, or above 1 beside a source; or an amount is 0
sizes : refusals (Batch (0 ∷ []) 0 ∷ Batch (1 ∷ 0 ∷ []) 3 ∷ Index (Some (record { queue = 1; k = 3 })) (0 ∷ []) ((5 ∷ 0 ∷ []) ∷ []) Lost 2 ∷ Negative None 1 0 ∷ [])
    ≡ Some SizeRange ∷ Some SizeRange ∷ Some SizeRange ∷ Some SizeRange ∷ []
unfolding refusal_of
sizes = refl

-- a part names no queue, lets in or leaves more than the capacity, or shifts too far
beyond : refusals (Guarded (part 2 0 0 (pos 1) 0 0 ∷ []) ∷ Guarded (part 0 0 3 (pos 1) 0 2 ∷ []) ∷ Guarded (part 0 0 2 (pos 1) 0 3 ∷ [])
    ∷ Guarded (part 0 0 2 (pos 65536) 0 2 ∷ []) ∷ Guarded (part 0 0 2 (negsuc 65535) 0 2 ∷ []) ∷ [])
    ≡ Some PartRange ∷ Some PartRange ∷ Some PartRange ∷ Some PartRange ∷ Some PartRange ∷ []
unfolding refusal_of
beyond = refl

-- no number is from the least of a part to its most, or from its floor to its ceiling
hollow : refusals (Guarded (part 0 2 1 (pos 1) 0 2 ∷ []) ∷ Guarded (part 0 0 2 (pos 1) 2 1 ∷ []) ∷ []) ≡ Some EmptyGuard ∷ Some EmptyGuard ∷ []
unfolding refusal_of
hollow = refl

-- these fit: the greatest sizes, amounts and shifts among them
fits : refusals (Service (record { queue = 0; k = 2 }) [] Stay ∷ Batch (1 ∷ 0 ∷ []) 2 ∷ Negative None 1 65535 ∷ Guarded (part 0 0 2 (negsuc 65534) 0 2 ∷ part 1 3 3 (pos 65535) 3 3 ∷ []) ∷ [])
    ≡ None ∷ None ∷ None ∷ None ∷ []
unfolding refusal_of
fits = refl
