-- What a diagram is seen as, and what every diagram keeps.
use Rattle.std.specs.Prelude.{◌≡◌, ◌≢◌, ℕ, ◌≤◌, List, length}
use Rattle.psi_state.specs.State.{AreCapacities}
use Rattle.psi_state.specs.Members.{In}
use Rattle.psi_closed_arcs.specs.declared.ends.Arc.{Arc}
use Rattle.psi_closed_arcs.specs.Walks.{customers, IsArc}
use Rattle.psi_closed_arcs.specs.Held.{ArcList, Listed}
use Rattle.psi_closed.specs.Closed.{IsOfTotal, all_arcs, held_states}

-- the capacities, the number of customers in all, and the states that the diagram holds
pub record Shown : Type 0 where
  pub caps : List ℕ
  pub total : ℕ
  pub states : List (List ℕ)

-- a number of customers that states of the capacities can hold in all
pub record IsTotal (caps : List ℕ) (k : ℕ) : Type 0 where
  pub most : k ≤ 256
  pub fits : k ≤ customers caps

-- an arc of the list is an arc of a state that the list holds
pub record IsHeldArc (caps : List ℕ) (k : ℕ) (arcs : List Arc) (l s v : ℕ) : Type 0 where
  pub state : List ℕ
  pub held : In state (held_states caps k arcs)
  pub own : IsArc state l s v

-- each arc is an arc of a held state
pub record AreWhole (caps : List ℕ) (k : ℕ) (arcs : List Arc) : Type 0 where
  pub each : (l s v : ℕ) → Listed arcs l s v → IsHeldArc caps k arcs l s v

-- what every diagram keeps: each of its arcs is an arc of a held state, and at least one state is held
pub record IsDiagram (caps : List ℕ) (held : ArcList) : Type 0 where
  pub valid : AreCapacities caps
  pub fits : IsTotal caps held.total
  pub levels : held.levels ≡ length caps
  pub whole : AreWhole caps held.total held.arcs
  pub some : (x : List ℕ) × In x (held_states caps held.total held.arcs)

-- the arcs of the list are those of these states, each of which holds k customers
pub record AreArcsOf (caps : List ℕ) (k : ℕ) (arcs : List Arc) (xs : List (List ℕ)) : Type 0 where
  pub there : (l s v : ℕ) → Listed arcs l s v → Listed (all_arcs xs) l s v
  pub back : (l s v : ℕ) → Listed (all_arcs xs) l s v → Listed arcs l s v
  pub of : (x : List ℕ) → In x xs → IsOfTotal caps k x

-- a state of n queues with t customers at most
pub record HasRoom (n t : ℕ) (x : List ℕ) : Type 0 where
  pub long : length x ≡ n
  pub sum : customers x ≤ t

-- an arc leaves queue l with s customers before it
pub record IsLeft (arcs : List Arc) (l s : ℕ) : Type 0 where
  pub own : ℕ
  pub there : Listed arcs l s own

-- the one arc that leaves queue l with s customers before it has v customers there
pub record IsOnly (arcs : List Arc) (l s v : ℕ) : Type 0 where
  pub there : Listed arcs l s v
  pub only : (w : ℕ) → Listed arcs l s w → w ≡ v

-- two arcs leave queue l with s customers before it
pub record IsForked (arcs : List Arc) (l s : ℕ) : Type 0 where
  pub own : ℕ
  pub other : ℕ
  pub first : Listed arcs l s own
  pub second : Listed arcs l s other
  pub apart : other ≢ own
