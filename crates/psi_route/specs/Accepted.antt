-- What is known of a route: the facts that no refusal leaves open.
use Rattle.std.specs.Prelude.{◌≡◌, ◌≢◌, ℕ, ◌<◌, ◌≤◌, List, [], length, get_or, slice_index, Option, Some, true, is_none}
use Rattle.std.specs.Option.{ForSome}
use Rattle.psi_state.specs.State.{AreCapacities}
use Rattle.psi_route.specs.Routing.{Shape}
use Rattle.psi_route.specs.declared.parts.Source.{Source}
use Rattle.psi_route.specs.declared.parts.Full.{Full}

-- the shape of these parts
abbrev pub shape : List ℕ → Option Source → ℕ → List ℕ → List (List ℕ) → Full → Shape
shape caps source size targets tables full =
    record { caps = caps; source = source; size = size; targets = targets; tables = tables; full = full }

-- a source among queues of these capacities, whose server works from some number of customers on that the queue can hold
pub record IsSource (caps : List ℕ) (source : Source) : Type 0 where
  pub queue : source.queue < length caps
  pub least : 1 ≤ source.k
  pub most : source.k ≤ slice_index caps source.queue

-- capacities, and targets that are different queues, none of them the source, each with room for the size and with its table if there are any
pub record IsRouteShape (s : Shape) : Type 0 where
  pub caps : AreCapacities s.caps
  pub source : ForSome s.source (λ t. t.queue < length s.caps)
  pub least : ForSome s.source (λ t. 1 ≤ t.k)
  pub most : ForSome s.source (λ t. t.k ≤ slice_index s.caps t.queue)
  pub few : length s.targets ≤ 32
  pub named : (i : ℕ) → i < length s.targets → slice_index s.targets i < length s.caps
  pub away : (source : Source) → s.source ≡ Some source → (i : ℕ) → i < length s.targets → slice_index s.targets i ≢ source.queue
  pub apart : (i j : ℕ) → i < length s.targets → j < length s.targets → slice_index s.targets i ≡ slice_index s.targets j → i ≡ j
  pub tabled : 0 < length s.tables → length s.tables ≡ length s.targets
  pub fitted : (i : ℕ) → i < length s.tables → length (get_or s.tables i []) ≡ slice_index s.caps (slice_index s.targets i)
  pub sized : 1 ≤ s.size
  pub fits : (i : ℕ) → i < length s.targets → s.size ≤ slice_index s.caps (slice_index s.targets i)
  pub alone : 2 ≤ s.size → is_none s.source ≡ true
  pub some : 2 ≤ s.size → 1 ≤ length s.targets

-- ---- tests that failed
