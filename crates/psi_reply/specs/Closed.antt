-- Samples of a closed network, in which a fixed number of customers moves from queue to queue, and what is printed of them.
use Rattle.std.specs.Prelude.{◌≡◌, ℕ, ◌<◌, ◌≤◌, List, map, not, Option, None, Some, ◌⊎◌}
use Rattle.std.specs.List.{position}
use Rattle.std.specs.Option.{is_some}
use Rattle.psi_io.specs.Sink.{appended}
use Rattle.psi_state.specs.declared.Outcome.{Outcome}
use Rattle.psi_kinds.specs.declared.Move.{Move}
use Rattle.psi_kinds.specs.Moves.{move_of}
use Rattle.psi_rate.specs.Outcomes.{outcome_within}
use Rattle.psi_closed_arcs.specs.Walks.{customers}
use Rattle.psi_closed.specs.Closed.{closed_ending}
use Rattle.psi_closed.specs.Planned.{ClosedNetwork as ClosedNet, IsClosedSample}
use Rattle.psi_net_model.specs.Network.{Network, caps_of, rates_of}
use Rattle.psi_net_model.specs.declared.entries.NamedEvent.{NamedEvent}
use Rattle.psi_command.specs.declared.status.Status.{Status}
use Rattle.psi_command.specs.declared.status.Status.TheVariants.{NotClosed, NoSuchTotal}
use Rattle.psi_reply.specs.Texts.{outcome_text}
use Rattle.psi_reply.specs.Sample.{functions_by_time, outcome_status}

-- the number of the first event that isn't a move of one customer, if there is one
unfoldable pub first_other : Network → Option ℕ
first_other net = position (λ event. not (is_some (move_of event.kind))) net.events

-- these are the moves that the events are, in their order
abbrev pub AreMovesOf : List NamedEvent → List Move → Type 0
AreMovesOf events moves = map (λ event. move_of event.kind) events ≡ map Some moves

-- a closed network is that of a network's moves, among the states of so many customers
pub record IsClosedNet (net : Network) (number : ℕ) (closed : ClosedNet) : Type 0 where
  pub caps : closed.caps ≡ caps_of net
  pub total : closed.total ≡ number
  pub moves : AreMovesOf net.events closed.moves
  pub rates : closed.rates ≡ rates_of net
  pub limit : closed.limit ≡ net.limit

-- the state with which the closed run of each horizon ends, if it ends with one, under the words of a seed and a stream
unfoldable pub closed_endings : Network → (seed stream total : ℕ) → ℕ → Option (List ℕ)
closed_endings net seed stream total = closed_ending (caps_of net) total (functions_by_time net seed stream)

-- the sample that a seed and a stream draw of a closed network with so many customers (Propp and Wilson 1996), by arc hulls
unfoldable pub closed_sampled : Network → (seed stream total : ℕ) → Outcome
closed_sampled net seed stream total = outcome_within (closed_endings net seed stream total) net.limit

-- what is printed is an outcome of the closed network's moves under the words of the seed and the stream
pub record IsClosedOf (before after : Option (List ℕ)) (result : Status) (net : Network) (seed stream total : ℕ) : Type 0 where
  -- each event is a move of one customer
  pub moves : first_other net ≡ None
  -- there are states with so many customers
  pub fits : total ≤ customers (caps_of net)
  pub outcome : Outcome
  -- that of coupling from the past over the arc hulls of these states
  pub drawn : IsClosedSample (caps_of net) total (functions_by_time net seed stream) net.limit outcome
  -- the status tells whether it is met
  pub status : result ≡ outcome_status outcome
  -- and out grew by its text
  pub text : after ≡ appended before (outcome_text outcome)

-- an event isn't a move of one customer, and the status tells it
pub record IsOpen (result : Status) (net : Network) : Type 0 where
  pub event : ℕ
  pub first : first_other net ≡ Some event
  pub status : result ≡ NotClosed

-- each event is a move, but the queues can't hold so many customers, and the status tells it
pub record IsOverfull (result : Status) (net : Network) (total : ℕ) : Type 0 where
  pub moves : first_other net ≡ None
  pub over : customers (caps_of net) < total
  pub status : result ≡ NoSuchTotal

-- what is printed is a sample of the closed network, unless it isn't one, or can't hold so many customers
abbrev pub IsClosedSampled : Option (List ℕ) → Option (List ℕ) → Status → Network → (seed stream total : ℕ) → Type 0
IsClosedSampled before after result net seed stream total =
    IsClosedOf before after result net seed stream total ⊎ (IsOpen result net ⊎ IsOverfull result net total)
