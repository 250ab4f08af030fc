-- The report of the samples of several pasts, and the sums that means are made of.
use Rattle.std.specs.Prelude.{◌≡◌, ℕ, ◌+◌, ◌-◌, ◌*◌, ◌<◌, ℤ, pos, ◌+ℤ◌, List, map, length, slice_index, slice_index_or}
use Rattle.psi_state.specs.declared.Outcome.{Outcome}
use Rattle.psi_state.specs.Members.{In}
use Rattle.psi_reward.specs.Worth.{worth_of}
use Rattle.psi_net_model.specs.Network.{Network, NamedReward}
use Rattle.psi_net_model.specs.declared.entries.Queue.{Queue}
use Rattle.psi_report.specs.declared.figure.Item.TheVariants.{Sum, RewardSum}
use Rattle.psi_report.specs.Contents.{Contents}
use Rattle.psi_report.specs.Report.{figure, contents_of}
use Rattle.psi_law.specs.Counting.{Words}
use Rattle.psi_law.specs.Chains.{Chain}
use Rattle.psi_law_many.specs.Values.{sum_or}

-- what the report of the samples of these pasts contains, one stream for each past
abbrev pub report_of : Network → (Words → Outcome) → List Words → Contents
report_of net sample pasts = contents_of net (map sample pasts)

-- the report of k pasts counts k samples; the figure `sum` of a queue is the sum of its customers over the samples that coalesced; the figure `reward-sum` of a reward, with c added for each of them, is the sum of the value that is c more than the reward; and any other number for samples that did not coalesce is added as often as there are such samples
pub record IsReported (net : Network) (chain : Chain) (sample : Words → Outcome) : Type 0 where
  pub samples : (pasts : List Words) → (report_of net sample pasts).samples ≡ length pasts
  pub sums : (pasts : List Words) (i : ℕ) (queue : Queue) → i < length net.queues
      → In (figure Sum (slice_index_or net.queues i queue).name (pos (sum_or 0 (λ x. slice_index x i) sample pasts))) (report_of net sample pasts).figures
  pub rewards : (pasts : List Words) (i : ℕ) (reward : NamedReward) (value : List ℕ → ℕ) (c : ℕ) → i < length net.rewards
      → ((x : List ℕ) → In x chain.states → worth_of (slice_index_or net.rewards i reward).kind x +ℤ pos c ≡ pos (value x))
      → (z : ℤ) × (In (figure RewardSum (slice_index_or net.rewards i reward).name z) (report_of net sample pasts).figures
      × (z +ℤ pos (c * (report_of net sample pasts).met) ≡ pos (sum_or 0 value sample pasts)))
  pub others : (pasts : List Words) (value : List ℕ → ℕ) (other : ℕ)
      → sum_or other value sample pasts ≡ sum_or 0 value sample pasts + other * ((report_of net sample pasts).samples - (report_of net sample pasts).met)
