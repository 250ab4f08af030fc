-- Samples of a network that a file may describe.
use Rattle.std.specs.Prelude.{◌≡◌, ℕ, ◌^◌, ◌<◌, ◌≤◌, List, map, length, All, true, Ok}
use Rattle.psi_state.specs.Ascending.{IsDistinct}
use Rattle.psi_state.specs.declared.Outcome.{Outcome}
use Rattle.psi_net_model.specs.Name.{is_name}
use Rattle.psi_net_model.specs.Network.{Network, caps_of}
use Rattle.psi_net_model.specs.Valid.{AreListed, IsReward}
use Rattle.psi_report.specs.Samples.{IsSampleOf}
use Rattle.psi_report.specs.Report.{report_text, contents_of}
use Rattle.psi_report_reader.specs.Reading.{read}

-- names, of which no two are the same
pub record AreNames (names : List (List ℕ)) : Type 0 where
  pub each : All (λ name. is_name name ≡ true) names
  pub differ : IsDistinct names

-- what a report shows of a network is as its file may have it: 1 to 32 queues of 1 to 65,535 places, at most 64 rewards, none of which is refused, and
-- names, of which those of two queues differ, and those of two rewards
pub record IsDescribed (net : Network) : Type 0 where
  pub queues : AreListed net.queues
  pub queue_names : AreNames (map (λ q. q.name) net.queues)
  pub few_rewards : length net.rewards ≤ 64
  pub rewards : All (λ r. IsReward (caps_of net) r.kind) net.rewards
  pub reward_names : AreNames (map (λ r. r.name) net.rewards)

-- samples of such a network: each that is met at a power of two of at most 2^22 steps, in a state within the capacities
pub record AreOf (net : Network) (outcomes : List Outcome) : Type 0 where
  pub network : IsDescribed net
  pub samples : All (IsSampleOf net) outcomes

-- the report of less than 2^64 of them is read as its contents
abbrev pub SamplesAreRead : Type 0
SamplesAreRead = (net : Network) (outcomes : List Outcome) → AreOf net outcomes → length outcomes < 2 ^ 64 → read (report_text net outcomes) ≡ Ok (contents_of net outcomes)

-- and it has at most 32,768 bytes
abbrev pub ReportsAreShort : Type 0
ReportsAreShort = (net : Network) (outcomes : List Outcome) → AreOf net outcomes → length outcomes < 2 ^ 64 → length (report_text net outcomes) ≤ 32768
