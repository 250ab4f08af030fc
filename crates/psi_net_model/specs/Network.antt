-- A queueing network, as its file describes it.
use Rattle.std.specs.Prelude.{ℕ, List, map, Option}
use Rattle.psi_kinds.specs.Kinds.{do_kind}
use Rattle.psi_kinds.specs.Forms.{upset_of}
use Rattle.psi_reward.specs.declared.RewardKind.{RewardKind}
use Rattle.psi_net_model.specs.declared.entries.Queue.{Queue}
use Rattle.psi_net_model.specs.declared.entries.NamedEvent.{NamedEvent}

-- a reward with its name
pub record NamedReward : Type 0 where
  pub name : List ℕ
  pub kind : RewardKind

-- the queues in the file's order, the events expanded over servers, the exponent of the greatest horizon, the split number and the rewards
pub record Network : Type 0 where
  pub queues : List Queue
  pub events : List NamedEvent
  pub limit : ℕ
  pub split : ℕ
  pub rewards : List NamedReward

-- the capacities of the queues
abbrev pub caps_of : Network → List ℕ
caps_of net = map (λ q. q.capacity) net.queues

-- the rates of the events
abbrev pub rates_of : Network → List ℕ
rates_of net = map (λ e. e.rate) net.events

-- what each event makes of a state
abbrev pub functions_of : Network → List (List ℕ → List ℕ)
functions_of net = map (λ e. do_kind (caps_of net) e.kind) net.events

-- the two states whose order each event breaks, if there are any
abbrev pub marks_of : Network → List (Option (List ℕ × List ℕ))
marks_of net = map (λ e. upset_of (caps_of net) e.kind) net.events
