-- The two forms of events, routes and guarded events, and which of them each kind is.
use Rattle.std.specs.Prelude.{ℕ, ◌-◌, List, [], ◌∷◌, ◌++◌, map, pos, neg_ℤ, Option, Some, None, slice_index}
use Rattle.psi_guard.specs.Guarding as guard
use Rattle.psi_guard.specs.declared.Part.{Part}
use Rattle.psi_route.specs.Routing as route
use Rattle.psi_route.specs.Routing.{Shape}
use Rattle.psi_route.specs.declared.Source.{Source}
use Rattle.psi_route.specs.declared.Full.TheVariants.{Lost}
use Rattle.psi_kinds.specs.declared.kinds.Kind.{Kind}
use Rattle.psi_kinds.specs.declared.kinds.Kind.TheVariants.{Arrival, Service, Index, Batch, Negative, Fork, Join, Guarded}

-- a route, or a guarded event with its parts
pub data Form : Type 0 where
  routes : Shape → Form
  guards : List Part → Form

-- what a form of event does to a state
abbrev pub function_of : Form → List ℕ → List ℕ
function_of (routes shape) = route.routed shape
function_of (guards parts) = guard.guarded parts

-- under these capacities
module _ (caps : List ℕ) where
  -- queue q loses customers, or all where it holds fewer: it may hold any number from the least on
  abbrev pub losing_part : ℕ → ℕ → ℕ → Part
  losing_part least q b = record { queue = q; least = least; most = slice_index caps q; shift = neg_ℤ (pos b); floor = 0; ceiling = slice_index caps q }

  -- queue q gains a customer: it must have room
  abbrev pub gaining_part : ℕ → Part
  gaining_part q = record { queue = q; least = 0; most = slice_index caps q - 1; shift = pos 1; floor = 0; ceiling = slice_index caps q }

  -- the source, if there is one, serves and loses a customer
  abbrev pub source_parts : Option Source → List Part
  source_parts None = []
  source_parts (Some source) = losing_part source.k source.queue 1 ∷ []

  -- the queue that is joined, if there is one, gains a customer
  abbrev pub joined_parts : Option ℕ → List Part
  joined_parts None = []
  joined_parts (Some q) = gaining_part q ∷ []

  -- a negative customer: the source loses one, and the other queue the amount or all
  abbrev pub negative_parts : Option Source → ℕ → ℕ → List Part
  negative_parts from on amount = source_parts from ++ losing_part 0 on amount ∷ []

  -- a fork: the source loses one, and every queue of the list gains one
  abbrev pub fork_parts : Option Source → List ℕ → List Part
  fork_parts from to = source_parts from ++ map gaining_part to

  -- a join: every queue of the list loses one, and the queue that is joined gains one
  abbrev pub join_parts : List ℕ → Option ℕ → List Part
  join_parts from to = map (λ q. losing_part 1 q 1) from ++ joined_parts to

  -- the form of each kind
  abbrev pub form_of : Kind → Form
  form_of (Arrival to) = routes (record { caps = caps; source = None; size = 1; targets = to; tables = []; full = Lost })
  form_of (Service from to full) = routes (record { caps = caps; source = Some from; size = 1; targets = to; tables = []; full = full })
  form_of (Index from to table full size) = routes (record { caps = caps; source = from; size = size; targets = to; tables = table; full = full })
  form_of (Batch to size) = routes (record { caps = caps; source = None; size = size; targets = to; tables = []; full = Lost })
  form_of (Negative from on amount) = guards (negative_parts from on amount)
  form_of (Fork from to) = guards (fork_parts from to)
  form_of (Join from to) = guards (join_parts from to)
  form_of (Guarded parts) = guards parts

  -- the two states by which a form of event breaks the order, if there are any
  abbrev pub pair_of : Form → Option (List ℕ × List ℕ)
  pair_of (routes shape) = route.upset_of shape
  pair_of (guards parts) = guard.upset_of caps parts

  -- the two states by which an event of a kind breaks the order, if there are any
  unfoldable pub upset_of : Kind → Option (List ℕ × List ℕ)
  upset_of kind = pair_of (form_of kind)
