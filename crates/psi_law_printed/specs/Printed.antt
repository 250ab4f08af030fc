-- The network of a file has the law of samples, and what is printed of a seed and a stream is the sample that is counted there.
use Rattle.std.specs.Prelude.{◌≡◌, ℕ, ◌^◌, ◌<◌, ◌≤◌, List, length, map, All, Option, Some, None, Ok}
use Rattle.psi_past.specs.SeedWord.{seed_word}
use Rattle.psi_reward.specs.declared.kinds.RewardKind.{RewardKind}
use Rattle.psi_reward.specs.Worth.{worth_of}
use Rattle.psi_closed.specs.Diagram.{IsTotal}
use Rattle.psi_event.specs.Law.{IsMonotone}
use Rattle.psi_net_model.specs.Network.{Network, caps_of, rates_of, functions_of}
use Rattle.psi_net.specs.Reading.{network_of}
use Rattle.psi_command.specs.declared.status.Status.TheVariants.{Done}
use Rattle.psi_command.specs.Command.{sample, couple, reward, report, closed}
use Rattle.psi_program.specs.Reply.{text_reply}
use Rattle.psi_reply.specs.Couplings.{coupling_text}
use Rattle.psi_reply.specs.Values.{value_text}
use Rattle.psi_reply.specs.Couple.{coupling_status}
use Rattle.psi_reply.specs.Reward.{kind_named, value_status}
use Rattle.psi_reply.specs.Closed.{first_other}
use Rattle.psi_reply.specs.Reply.{outcome_reply}
use Rattle.psi_reply.specs.Report.{samples_of}
use Rattle.psi_run.specs.Reply.{reply_to}
use Rattle.psi_law.specs.Counting.{Words}
use Rattle.psi_law.specs.Wheel.{word_count, IsExact}
use Rattle.psi_law.specs.Chains.{Chain}
use Rattle.psi_state.specs.declared.Outcome.{Outcome}
use Rattle.psi_state.specs.State.{numbers_from, all_states}
use Rattle.psi_report.specs.Report.{report_text}
use Rattle.psi_law.specs.Samples.{HasStationaryLaw}
use Rattle.psi_law.specs.Networks.{network_chain, network_ending, network_sample, network_total_chain, network_total_ending, network_total_sample}
use Rattle.psi_law.specs.Couplings.{network_coupling, coupled_outcome}
use Rattle.psi_law.specs.Values.{network_value, BalanceIsValueLaw}
use Rattle.psi_law.specs.Statements.{BalanceStays, BalanceIsLaw, BalanceIsOne, BalanceIsMean, BalanceIsSignedMean, ApartFalls, MixesAsCoupled, UncoalescedFalls, UnmetIsUncoalesced, LimitSquares, UnmetIsApart, LooksAtFirst}

-- a chain and the samples of all pasts, of which n words count, have the law of samples; their runs end so
pub record HaveLaws (chain : Chain) (samples : Words → Outcome) (n : ℕ) (ending : Words → ℕ → Option (List ℕ)) : Type 0 where
  pub stationary : HasStationaryLaw samples n chain
  pub law : BalanceIsLaw chain samples n
  pub mean : BalanceIsMean chain samples n
  pub signed_mean : BalanceIsSignedMean chain samples n
  pub balance : BalanceStays chain
  pub one : BalanceIsOne chain
  pub falls : ApartFalls chain
  pub mixing : MixesAsCoupled chain
  pub runs : UncoalescedFalls ending
  pub unmet : UnmetIsUncoalesced ending
  pub square : LimitSquares ending
  pub words : LooksAtFirst samples n

-- the words of a seed and a stream, as far as a network looks at them, are words that are counted
abbrev pub AreCountedWords : ℕ → Type 0
AreCountedWords n = (seed stream place : ℕ) → place < n → seed_word seed stream place < word_count

-- where a file of this name holds these bytes
module _ (told : List ℕ → Option (List ℕ)) (name : List ℕ) (net : Network) (seed stream : ℕ) where
  -- the replies to `sample`, `couple` and `reward` are those of the sample, the coupling and the value of the past of the seed and the stream
  pub record RepliesAreCounted : Type 0 where
    pub sample : reply_to (Ok (sample name seed stream)) told ≡ Some (outcome_reply (network_sample net (seed_word seed stream)))
    pub couple : reply_to (Ok (couple name seed stream)) told
        ≡ Some (text_reply (coupling_status (network_coupling net (seed_word seed stream))) (coupling_text (network_coupling net (seed_word seed stream))))
    pub reward : (of : List ℕ) (kind : RewardKind) → kind_named of net.rewards ≡ Some kind → reply_to (Ok (reward name seed stream of)) told
        ≡ Some (text_reply (value_status (network_value net kind (seed_word seed stream))) (value_text (network_value net kind (seed_word seed stream))))

-- the network of a file's bytes: its samples, couplings and values have the law, and what is printed of them is counted
pub record IsCounted (bytes : List ℕ) (net : Network) : Type 0 where
  pub samples : HaveLaws (network_chain net) (network_sample net) (2 ^ net.limit) (network_ending net)
  pub couplings : BalanceIsLaw (network_chain net) (λ past. coupled_outcome (network_coupling net past)) (2 ^ net.limit)
  pub values : (kind : RewardKind) → BalanceIsValueLaw (network_value net kind) (2 ^ net.limit) (network_chain net) (worth_of kind)
  pub wheel : IsExact (rates_of net)
  pub monotone : All (IsMonotone (caps_of net)) (functions_of net) → UnmetIsApart (network_chain net) (network_sample net) (2 ^ net.limit)
  pub small : length (all_states (caps_of net)) ≤ net.split → UnmetIsApart (network_chain net) (network_sample net) (2 ^ net.limit)
  pub words : AreCountedWords (2 ^ net.limit)
  pub printed : (told : List ℕ → Option (List ℕ)) (name : List ℕ) (seed stream : ℕ) → told name ≡ Some bytes → RepliesAreCounted told name net seed stream

abbrev pub SamplesAreCounted : Type 0
SamplesAreCounted = (bytes : List ℕ) (net : Network) → network_of bytes ≡ Ok net → IsCounted bytes net

-- the pasts of a seed and of `count` streams, from the first on: each has the words of the seed and its stream
abbrev pub pasts_of : (seed first count : ℕ) → List Words
pasts_of seed first count = map (λ stream. seed_word seed stream) (numbers_from first count)

-- the report of streams is that of the samples of their pasts; of the same samples `psi_states` prints a row each
pub record IsReportCounted (bytes : List ℕ) (net : Network) : Type 0 where
  pub samples : (seed first count : ℕ) → samples_of net seed first count ≡ map (network_sample net) (pasts_of seed first count)
  pub printed : (told : List ℕ → Option (List ℕ)) (name : List ℕ) (seed first count : ℕ) → told name ≡ Some bytes
      → reply_to (Ok (report name seed first count)) told ≡ Some (text_reply Done (report_text net (map (network_sample net) (pasts_of seed first count))))

abbrev pub ReportsAreCounted : Type 0
ReportsAreCounted = (bytes : List ℕ) (net : Network) → network_of bytes ≡ Ok net → IsReportCounted bytes net

-- as `IsCounted`, of a closed network whose queues can hold so many customers, 256 at most
pub record IsClosedCounted (bytes : List ℕ) (net : Network) (total : ℕ) : Type 0 where
  pub samples : HaveLaws (network_total_chain net total) (network_total_sample net total) (2 ^ net.limit) (network_total_ending net total)
  pub wheel : IsExact (rates_of net)
  pub words : AreCountedWords (2 ^ net.limit)
  pub printed : (told : List ℕ → Option (List ℕ)) (name : List ℕ) (seed stream : ℕ) → told name ≡ Some bytes
      → reply_to (Ok (closed name seed stream total)) told ≡ Some (outcome_reply (network_total_sample net total (seed_word seed stream)))

abbrev pub ClosedSamplesAreCounted : Type 0
ClosedSamplesAreCounted = (bytes : List ℕ) (net : Network) (total : ℕ) → network_of bytes ≡ Ok net → first_other net ≡ None → IsTotal (caps_of net) total → IsClosedCounted bytes net total
