-- Quantities of a network's states: the number of customers in each queue, and what each reward makes of a state.
use Rattle.std.specs.Prelude.{ℕ, ◌+◌, ℤ, pos, ◌+ℤ◌, List, [], ◌∷◌, map, slice_index}
use Rattle.psi_reward.specs.Worth.{worth_of}
use Rattle.psi_net_model.specs.Network.{Network}
use Rattle.psi_net_model.specs.declared.entries.Queue.{Queue}

-- a number that each state has, under a name
pub record Quantity : Type 0 where
  pub name : List ℕ
  pub value : List ℕ → ℤ

-- the numbers of customers in these queues, the first of which has this number
unfoldable pub queues_from : ℕ → List Queue → List Quantity
queues_from i [] = []
queues_from i (queue ∷ queues) = record { name = queue.name; value = λ state. pos (slice_index state i) } ∷ queues_from (i + 1) queues

-- the numbers of customers in the queues, in their order
abbrev pub queue_quantities : Network → List Quantity
queue_quantities net = queues_from 0 net.queues

-- the values of the rewards, in their order
abbrev pub reward_quantities : Network → List Quantity
reward_quantities net = map (λ r. record { name = r.name; value = worth_of r.kind }) net.rewards

-- the sum of integers
unfoldable pub sum_of : List ℤ → ℤ
sum_of [] = pos 0
sum_of (z ∷ zs) = z +ℤ sum_of zs
