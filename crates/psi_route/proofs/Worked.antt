-- What routes make of small states, worked out by hand and computed by the checker.
use Rattle.std.proofs.Common.{◌≡◌, [], ◌∷◌, Some, None, map, refl}
use Rattle.psi_state.specs.State.{box}
use Rattle.psi_state.specs.Sets.{image}
use Rattle.psi_state.specs.Hull.{corners}
use Rattle.psi_event.specs.Choice.{first_some}
use Rattle.psi_route.specs.Routing.{Shape, best, act, routed, pair_from, pair_between, pair_behind, first_pair, upset_of}
use Rattle.psi_route.specs.Refusals.{refusal_of}
use Rattle.psi_route.specs.Accepted.{shape}
use Rattle.psi_route.specs.declared.parts.Full.TheVariants.{Lost, Stay}
use Rattle.psi_route.specs.declared.parts.RouteRefusal.TheVariants.{SelfTarget, Repeated, TableLength, SizeRange}

-- join the shorter of two queues with room for two each
shortest : Shape
shortest = shape (2 ∷ 2 ∷ []) None 1 (0 ∷ 1 ∷ []) ((0 ∷ 1 ∷ []) ∷ (0 ∷ 1 ∷ []) ∷ []) Lost

joins : map (routed shortest) ((0 ∷ 0 ∷ []) ∷ (1 ∷ 0 ∷ []) ∷ (1 ∷ 1 ∷ []) ∷ (2 ∷ 0 ∷ []) ∷ (2 ∷ 2 ∷ []) ∷ [])
    ≡ (1 ∷ 0 ∷ []) ∷ (1 ∷ 1 ∷ []) ∷ (2 ∷ 1 ∷ []) ∷ (2 ∷ 1 ∷ []) ∷ (2 ∷ 2 ∷ []) ∷ []
unfolding shortest routed act best first_some
joins = refl

keeps-order : upset_of shortest ≡ None
unfolding shortest upset_of first_pair pair_behind pair_between pair_from first_some
keeps-order = refl

-- a key that falls past another
falling : Shape
falling = shape (2 ∷ 2 ∷ []) None 1 (0 ∷ 1 ∷ []) ((5 ∷ 0 ∷ []) ∷ (3 ∷ 3 ∷ []) ∷ []) Lost

parts : map (routed falling) ((0 ∷ 0 ∷ []) ∷ (1 ∷ 0 ∷ []) ∷ []) ≡ (0 ∷ 1 ∷ []) ∷ (2 ∷ 0 ∷ []) ∷ []
unfolding falling routed act best first_some
parts = refl

breaks-order : upset_of falling ≡ Some (0 ∷ 0 ∷ [], 1 ∷ 0 ∷ [])
unfolding falling upset_of first_pair pair_behind pair_between pair_from first_some
breaks-order = refl

-- room for four each: between 7 and 4 there are 5 and 6, at 0 and 2 customers of the second queue; between 9 and 7 there is 8, at 1 customer
tangled : upset_of (shape (4 ∷ 4 ∷ []) None 1 (0 ∷ 1 ∷ []) ((9 ∷ 7 ∷ 4 ∷ 0 ∷ []) ∷ (5 ∷ 8 ∷ 6 ∷ 1 ∷ []) ∷ []) Lost) ≡ Some (0 ∷ 1 ∷ [], 1 ∷ 1 ∷ [])
unfolding upset_of first_pair pair_behind pair_between pair_from first_some
tangled = refl

-- two customers come to a queue with room for three
couple : Shape
couple = shape (3 ∷ []) None 2 (0 ∷ []) [] Lost

comes : map (routed couple) ((1 ∷ []) ∷ (2 ∷ []) ∷ []) ≡ (3 ∷ []) ∷ (2 ∷ []) ∷ []
unfolding couple routed act best first_some
comes = refl

couple-breaks : upset_of couple ≡ Some (1 ∷ [], 2 ∷ [])
unfolding couple upset_of
couple-breaks = refl

-- the second server of the first queue, whose customers go to the other one; or they leave, whatever `full` is
served : map (routed (shape (3 ∷ 1 ∷ []) (Some (record { queue = 0; k = 2 })) 1 (1 ∷ []) [] Stay)) ((2 ∷ 0 ∷ []) ∷ (1 ∷ 0 ∷ []) ∷ (3 ∷ 1 ∷ []) ∷ [])
    ≡ (1 ∷ 1 ∷ []) ∷ (1 ∷ 0 ∷ []) ∷ (3 ∷ 1 ∷ []) ∷ []
unfolding routed act best first_some
served = refl

lost : map (routed (shape (3 ∷ 1 ∷ []) (Some (record { queue = 0; k = 2 })) 1 (1 ∷ []) [] Lost)) ((3 ∷ 1 ∷ []) ∷ []) ≡ (2 ∷ 1 ∷ []) ∷ []
unfolding routed act best first_some
lost = refl

leaves : map (routed (shape (3 ∷ 1 ∷ []) (Some (record { queue = 0; k = 2 })) 1 [] [] Stay)) ((3 ∷ 1 ∷ []) ∷ (1 ∷ 1 ∷ []) ∷ []) ≡ (2 ∷ 1 ∷ []) ∷ (1 ∷ 1 ∷ []) ∷ []
unfolding routed act best first_some
leaves = refl

-- without a source or a target nothing changes
idle : map (routed (shape (3 ∷ 1 ∷ []) None 1 [] [] Lost)) ((3 ∷ 1 ∷ []) ∷ (0 ∷ 0 ∷ []) ∷ []) ≡ (3 ∷ 1 ∷ []) ∷ (0 ∷ 0 ∷ []) ∷ []
unfolding routed act best first_some
idle = refl

-- a full target keeps the source where customers stay
stay-box : corners (image (routed (shape (2 ∷ 1 ∷ []) (Some (record { queue = 0; k = 1 })) 1 (1 ∷ []) [] Stay)) (box (1 ∷ 0 ∷ []) (2 ∷ 1 ∷ [])))
    ≡ record { lo = 0 ∷ 1 ∷ []; hi = 2 ∷ 1 ∷ [] }
unfolding routed act best first_some
stay-box = refl

lost-box : corners (image (routed (shape (2 ∷ 1 ∷ []) (Some (record { queue = 0; k = 1 })) 1 (1 ∷ []) [] Lost)) (box (1 ∷ 0 ∷ []) (2 ∷ 1 ∷ [])))
    ≡ record { lo = 0 ∷ 1 ∷ []; hi = 1 ∷ 1 ∷ [] }
unfolding routed act best first_some
lost-box = refl

-- refusals
short-table : refusal_of (shape (2 ∷ []) None 1 (0 ∷ []) ((7 ∷ []) ∷ []) Lost) ≡ Some TableLength
unfolding refusal_of
short-table = refl

no-customer : refusal_of (shape (2 ∷ []) None 0 (0 ∷ []) [] Lost) ≡ Some SizeRange
unfolding refusal_of
no-customer = refl

self : refusal_of (shape (2 ∷ []) (Some (record { queue = 0; k = 1 })) 0 (0 ∷ 0 ∷ []) ((7 ∷ []) ∷ []) Lost) ≡ Some SelfTarget
unfolding refusal_of
self = refl

twice : refusal_of (shape (2 ∷ []) None 0 (0 ∷ 0 ∷ []) ((7 ∷ []) ∷ []) Lost) ≡ Some Repeated
unfolding refusal_of
twice = refl

unfit : map refusal_of (shape (2 ∷ 3 ∷ []) None 0 (0 ∷ 1 ∷ []) ((0 ∷ []) ∷ (0 ∷ 0 ∷ 0 ∷ []) ∷ []) Lost
    ∷ shape (2 ∷ 3 ∷ []) (Some (record { queue = 1; k = 1 })) 0 (0 ∷ []) ((0 ∷ 0 ∷ []) ∷ (0 ∷ 0 ∷ 0 ∷ []) ∷ []) Stay ∷ [])
    ≡ Some TableLength ∷ Some TableLength ∷ []
unfolding refusal_of
unfit = refl

-- sizes from 1 up to each capacity, and 1 with a source or without a target
sizes : map refusal_of (shape (2 ∷ 3 ∷ []) None 3 (0 ∷ 1 ∷ []) [] Lost ∷ shape (2 ∷ 3 ∷ []) (Some (record { queue = 1; k = 1 })) 2 (0 ∷ []) [] Stay
    ∷ shape (2 ∷ 3 ∷ []) None 2 [] [] Lost ∷ shape (2 ∷ 3 ∷ []) None 2 (0 ∷ 1 ∷ []) [] Lost
    ∷ shape (2 ∷ 3 ∷ []) (Some (record { queue = 1; k = 1 })) 1 (0 ∷ []) [] Stay ∷ [])
    ≡ Some SizeRange ∷ Some SizeRange ∷ Some SizeRange ∷ None ∷ None ∷ []
unfolding refusal_of
sizes = refl
