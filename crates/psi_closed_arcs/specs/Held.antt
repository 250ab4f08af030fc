-- What a set of arcs is seen as.
use Rattle.std.specs.Prelude.{◌≡◌, ℕ, ◌+◌, ◌<◌, ◌≤◌, ◌≢◌, ◌↔◌, Bool, IsTrue, List, length, slice_index}
use Rattle.psi_state.specs.Members.{In}
use Rattle.psi_closed_arcs.specs.declared.ends.Arc.{Arc}

-- a set of arcs over so many queues, of states with so many customers, as the list of the arcs
pub record ArcList : Type 0 where
  pub levels : ℕ
  pub total : ℕ
  pub arcs : List Arc

-- the arc is in the list
abbrev pub Listed : List Arc → ℕ → ℕ → ℕ → Type 0
Listed arcs l s v = In (record { level = l; before = s; value = v }) arcs

-- an arc of one of so many queues, with so many customers in all at most
pub record IsRanged (levels total : ℕ) (arc : Arc) : Type 0 where
  pub place : arc.level < levels
  pub sum : arc.before + arc.value ≤ total

-- each arc of the list is in range
abbrev pub AreRanged : ℕ → ℕ → List Arc → Type 0
AreRanged levels total arcs = (arc : Arc) → In arc arcs → IsRanged levels total arc

-- at most 32 queues and 256 customers, and each arc in range
pub record IsSized (a : ArcList) : Type 0 where
  pub few : a.levels ≤ 32
  pub small : a.total ≤ 256
  pub ranged : AreRanged a.levels a.total a.arcs

-- it is this arc
pub record IsThis (arc : Arc) (l s v : ℕ) : Type 0 where
  pub level : arc.level ≡ l
  pub before : arc.before ≡ s
  pub value : arc.value ≡ v

-- the arcs of states within the capacities: those with at most k customers
pub record IsAny (caps : List ℕ) (k l s v : ℕ) : Type 0 where
  pub place : l < length caps
  pub own : v ≤ slice_index caps l
  pub sum : s + v ≤ k

-- v is the value of an arc of the list that leaves queue l with s customers before it, and `other` tells whether one of another value does so
pub record IsFirst (arcs : List Arc) (l s v : ℕ) (other : Bool) : Type 0 where
  pub there : Listed arcs l s v
  pub others : IsTrue other ↔ ((w : ℕ) × Listed arcs l s w × (w ≢ v))
