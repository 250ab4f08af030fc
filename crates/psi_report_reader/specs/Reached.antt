-- Reports of queues alone, of which each without a wrong line is that of samples.
use Rattle.std.specs.Prelude.{◌≡◌, ℕ, ◌≤◌, ℤ, unsigned_abs, List, All, Bool, true, false, None}
use Rattle.psi_state.specs.State.{IsBelow, AreCapacities}
use Rattle.psi_state.specs.declared.Outcome.{Outcome}
use Rattle.psi_reward.specs.Worth.{worth_of}
use Rattle.psi_reward.specs.declared.RewardKind.{RewardKind}
use Rattle.psi_net_model.specs.Network.{Network}
use Rattle.psi_net_model.specs.Valid.{IsReward, IsNetwork}
use Rattle.psi_report.specs.Report.{report_text, contents_of}
use Rattle.psi_report.specs.declared.figure.Item.{Item}
use Rattle.psi_report.specs.declared.figure.Item.TheVariants.{Sum, Least, Greatest}
use Rattle.psi_report.specs.declared.figure.Figure.{Figure}
use Rattle.psi_report.specs.Contents.{Contents}
use Rattle.psi_report.specs.Text.{text_of}
use Rattle.psi_report_reader.specs.Reading.{IsReport}
use Rattle.psi_report_reader.specs.Samples.{AreOf}
use Rattle.psi_report_reader.specs.Sound.{is_reward_value, flaw_of}

-- an item of a queue
abbrev pub is_of_queue : Item → Bool
is_of_queue Sum = true
is_of_queue Least = true
is_of_queue Greatest = true
is_of_queue _ = false

-- the figures are of queues alone
abbrev pub AreOfQueues : List Figure → Type 0
AreOfQueues figures = All (λ (f : Figure). is_of_queue f.item ≡ true) figures

-- there are a network that a file may describe and samples of it whose report tells this, and has its text
pub record IsReached (c : Contents) : Type 0 where
  pub net : Network
  pub outcomes : List Outcome
  pub kept : IsNetwork net
  pub are : AreOf net outcomes
  pub contents : contents_of net outcomes ≡ c
  pub text : report_text net outcomes ≡ text_of c

-- so it is with each report of queues alone in which no line is wrong
abbrev pub QueueReportsAreReached : Type 0
QueueReportsAreReached = (c : Contents) → IsReport c → AreOfQueues c.figures → flaw_of c ≡ None → IsReached c

-- ---- the values of rewards

-- a reward of queues of some capacities has a value of no lower magnitude, at a state within them
pub record IsWithinWorth (z : ℤ) : Type 0 where
  pub caps : List ℕ
  pub capacities : AreCapacities caps
  pub kind : RewardKind
  pub reward : IsReward caps kind
  pub state : List ℕ
  pub within : IsBelow state caps
  pub most : unsigned_abs z ≤ unsigned_abs (worth_of kind state)

-- so it is with each value that the least or the greatest of a reward may have
abbrev pub WorthsAreReached : Type 0
WorthsAreReached = (z : ℤ) → is_reward_value z ≡ true → IsWithinWorth z
