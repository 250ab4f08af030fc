-- What reports show of the networks that there are: those that files describe, and those that trials make of numbers.
use Rattle.std.specs.Prelude.{◌≡◌, ℕ, ◌^◌, ◌<◌, ◌≤◌, List, ◌++◌, length, All, None, Ok}
use Rattle.psi_state.specs.declared.Outcome.{Outcome}
use Rattle.psi_net_model.specs.Network.{Network}
use Rattle.psi_net_model.specs.Generated.{generated_network}
use Rattle.psi_report.specs.Samples.{IsSampleOf}
use Rattle.psi_report.specs.Report.{report_text, contents_of}
use Rattle.psi_net.specs.Reading.{network_of}
use Rattle.psi_report_reader.specs.Reading.{read}
use Rattle.psi_report_reader.specs.Samples.{IsDescribed}
use Rattle.psi_report_reader.specs.Sound.{flaw_of}
use Rattle.psi_report_reader.specs.Merging.{merged}

-- each network that is read of a file is one that a file may describe
abbrev pub NetworksAreDescribed : Type 0
NetworksAreDescribed = (bytes : List ℕ) (net : Network) → network_of bytes ≡ Ok net → IsDescribed net

-- and so is the network of each number
abbrev pub GeneratedAreDescribed : Type 0
GeneratedAreDescribed = (n : ℕ) → IsDescribed (generated_network n)

-- less than 2^64 samples of a network, which its totals may count
pub record AreCounted (net : Network) (outcomes : List Outcome) : Type 0 where
  pub each : All (IsSampleOf net) outcomes
  pub few : length outcomes < 2 ^ 64

-- their report is read as its contents, no line of it is wrong, and it has at most 32,768 bytes
pub record IsReadBack (net : Network) (outcomes : List Outcome) : Type 0 where
  pub reading : read (report_text net outcomes) ≡ Ok (contents_of net outcomes)
  pub right : flaw_of (contents_of net outcomes) ≡ None
  pub short : length (report_text net outcomes) ≤ 32768

-- so it is with each network of a file
abbrev pub ReportsAreReadBack : Type 0
ReportsAreReadBack = (bytes : List ℕ) (net : Network) (outcomes : List Outcome) → network_of bytes ≡ Ok net → AreCounted net outcomes → IsReadBack net outcomes

-- and the reports of two lists of its samples are merged into that of both lists, one after another
abbrev pub ReportsAreMerged : Type 0
ReportsAreMerged = (bytes : List ℕ) (net : Network) (outcomes others : List Outcome) → network_of bytes ≡ Ok net → AreCounted net (outcomes ++ others)
    → merged (contents_of net outcomes) (contents_of net others) ≡ Ok (contents_of net (outcomes ++ others))
