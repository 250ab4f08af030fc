-- Samples of which a report is read back.
use Rattle.std.specs.Prelude.{◌≡◌, ℕ, ◌^◌, ◌<◌, ◌≤◌, ℤ, List, map, length, All, true, Ok}
use Rattle.std.specs.Int.RustNames.{unsigned_abs}
use Rattle.psi_state.specs.declared.Outcome.{Outcome}
use Rattle.psi_net_model.specs.Name.{is_name}
use Rattle.psi_net_model.specs.Network.{Network}
use Rattle.psi_report.specs.Samples.{met_states, met_horizons}
use Rattle.psi_report.specs.Quantities.{Quantity, queue_quantities, reward_quantities}
use Rattle.psi_report.specs.Report.{report_text, contents_of}
use Rattle.psi_report_reader.specs.Reading.{read}

-- a value of 64 bits
abbrev pub IsSmall : ℤ → Type 0
IsSmall z = unsigned_abs z ≤ 2 ^ 63

-- a quantity has a name, and a value of 64 bits at each of these states
pub record IsMeasured (states : List (List ℕ)) (quantity : Quantity) : Type 0 where
  pub name : is_name quantity.name ≡ true
  pub values : All IsSmall (map quantity.value states)

-- less than 2^32 samples, whose horizons have 64 bits, over quantities that are measured
pub record AreSamples (net : Network) (outcomes : List Outcome) : Type 0 where
  pub few : length outcomes < 2 ^ 32
  pub horizons : All (λ horizon. horizon < 2 ^ 64) (met_horizons outcomes)
  pub queues : All (IsMeasured (met_states outcomes)) (queue_quantities net)
  pub rewards : All (IsMeasured (met_states outcomes)) (reward_quantities net)

-- the report of such samples is read as its contents
abbrev pub ReportIsRead : Type 0
ReportIsRead = (net : Network) (outcomes : List Outcome) → AreSamples net outcomes → read (report_text net outcomes) ≡ Ok (contents_of net outcomes)
