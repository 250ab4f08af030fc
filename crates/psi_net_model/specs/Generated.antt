-- A large valid network made from a number, for trials.
use Rattle.std.specs.Prelude.{ℕ, ◌+◌, ◌-◌, ◌*◌, ◌%◌, pos, List, [], ◌∷◌, ◌++◌, map, replicate, codes, decimal, ◌==◌, Some, if◌then◌else◌}
use Rattle.std.specs.List.{flat_map}
use Rattle.psi_state.specs.State.{numbers_from}
use Rattle.psi_route.specs.declared.Source.{Source}
use Rattle.psi_route.specs.declared.Full.{Full}
use Rattle.psi_route.specs.declared.Full.TheVariants.{Lost, Stay}
use Rattle.psi_kinds.specs.declared.Kind.TheVariants.{Arrival, Service, Batch, Negative}
use Rattle.psi_reward.specs.declared.RewardKind.TheVariants.{Linear}
use Rattle.psi_net_model.specs.Network.{Network, NamedReward}
use Rattle.psi_net_model.specs.Expansion.{expanded}
use Rattle.psi_net_model.specs.declared.entries.Queue.{Queue}
use Rattle.psi_net_model.specs.declared.entries.NamedEvent.{NamedEvent}

-- the first server of the i-th queue; an event names queues by numbers from 0, so it stands one below
abbrev pub server_of : ℕ → Source
server_of i = record { queue = i - 1; k = 1 }

-- customers join the first queue, or the second where it is full
abbrev pub arrival_event : NamedEvent
arrival_event = record { name = codes "in"; server = 1; rate = 8; kind = Arrival (0 ∷ 1 ∷ []) }

-- a customer for whom the next queue has no room stays after odd i, and is lost after even i
abbrev pub full_behind : ℕ → Full
full_behind i = if i % 2 == 1 then Stay else Lost

-- the service of the i-th queue at a rate: customers go on to these queues
abbrev pub service_event : ℕ → ℕ → List ℕ → Full → NamedEvent
service_event i rate to full = record { name = codes "s" ++ decimal i; server = 1; rate = rate; kind = Service (server_of i) to full }

-- that of a queue that isn't the last: customers go on to the next queue
abbrev pub passing_event : ℕ → NamedEvent
passing_event i = service_event i 10 (i ∷ []) (full_behind i)

-- the service of the last queue: customers leave the network
abbrev pub leaving_event : ℕ → NamedEvent
leaving_event last = service_event last 12 [] Lost

-- three customers at once join the first queue
abbrev pub bulk_event : NamedEvent
bulk_event = record { name = codes "bulk"; server = 1; rate = 1; kind = Batch (0 ∷ []) 3 }

-- a customer of the second queue turns into a negative one, which takes one from the last queue
abbrev pub negative_event : ℕ → NamedEvent
negative_event last = record { name = codes "neg"; server = 1; rate = 1; kind = Negative (Some (server_of 2)) (last - 1) 1 }

-- the network of a number
module _ (n : ℕ) where
  -- there are 4 to 16 queues
  abbrev pub queue_count : ℕ
  queue_count = 4 + n % 13

  -- the i-th queue, i from 1: 8 to 32 customers and 1 to 3 servers
  abbrev pub nth_queue : ℕ → Queue
  nth_queue i = record { name = codes "q" ++ decimal i; capacity = 8 + (5 * i + n) % 25; servers = 1 + (i + n) % 3 }

  -- the queues of the network of a number
  unfoldable pub generated_queues : List Queue
  generated_queues = map nth_queue (numbers_from 1 queue_count)

  -- the network of an odd number has these too
  abbrev pub odd_events : List NamedEvent
  odd_events = if n % 2 == 1 then bulk_event ∷ negative_event queue_count ∷ [] else []

  -- the events in order, before they are expanded over servers
  abbrev pub listed_events : List NamedEvent
  listed_events = arrival_event ∷ map passing_event (numbers_from 1 (queue_count - 1)) ++ leaving_event queue_count ∷ odd_events

  -- its events, expanded over servers
  unfoldable pub generated_events : List NamedEvent
  generated_events = flat_map (expanded generated_queues) listed_events

  -- the number of customers in the network
  unfoldable pub total_reward : NamedReward
  total_reward = record { name = codes "total"; kind = Linear (numbers_from 0 queue_count) (replicate queue_count (pos 1)) }

  -- the network of a number
  unfoldable pub generated_network : Network
  generated_network = record { queues = generated_queues; events = generated_events; limit = 18; split = 64; rewards = total_reward ∷ [] }
