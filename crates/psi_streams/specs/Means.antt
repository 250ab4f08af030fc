-- What it means that a call ends with a reply's status.
use Rattle.std.specs.Prelude.{◌≡◌, ℕ, suc, ◌≤◌, List, [], ◌∷◌, length, Option, Some, None, ◌⊎◌}
use Rattle.psi_io.specs.Sink.{appended}
use Rattle.psi_state.specs.declared.Outcome.{Outcome}
use Rattle.psi_closed_arcs.specs.Walks.{customers}
use Rattle.psi_closed.specs.Planned.{IsClosedSample}
use Rattle.psi_net_model.specs.Network.{Network, caps_of}
use Rattle.psi_command.specs.declared.status.Status.{Status}
use Rattle.psi_reply.specs.Sample.{functions_by_time}
use Rattle.psi_reply.specs.Report.{AreDrawn}
use Rattle.psi_reply.specs.Closed.{first_other, IsOpen, IsOverfull}
use Rattle.psi_run.specs.Means.{OfNetwork}
use Rattle.psi_table.specs.Paths.{text_of_kind}
use Rattle.psi_streams.specs.Asked.{Asked}
use Rattle.psi_streams.specs.Reply.{table_status}

-- what is printed is the table of samples of the network, or with a number of steps that of their paths
pub record IsTableOf (steps : Option ℕ) (before after : Option (List ℕ)) (result : Status) (net : Network) (seed first count : ℕ) : Type 0 where
  pub outcomes : List Outcome
  -- they are so many
  pub number : length outcomes ≡ count
  -- each is that of coupling from the past, under the words of the seed and its stream
  pub drawn : AreDrawn net seed first outcomes
  -- the status tells whether all are met
  pub status : result ≡ table_status outcomes
  -- and out grew by their table
  pub text : after ≡ appended before (text_of_kind steps net seed first outcomes)

-- the outcomes are those of coupling from the past over the arc hulls of the states with so many customers, one for each stream from the
-- first on
abbrev pub AreClosedDrawn : Network → (seed total first : ℕ) → List Outcome → Type 0
AreClosedDrawn net seed total first [] = Unit {0}
AreClosedDrawn net seed total first (outcome ∷ outcomes) =
    IsClosedSample (caps_of net) total (functions_by_time net seed first) net.limit outcome × AreClosedDrawn net seed total (suc first) outcomes

-- what is printed is the table of samples of the closed network with so many customers, or with a number of steps that of their paths
pub record IsClosedTableOf (steps : Option ℕ) (before after : Option (List ℕ)) (result : Status) (net : Network) (seed first count total : ℕ) : Type 0 where
  -- each event is a move of one customer
  pub moves : first_other net ≡ None
  -- there are states with so many customers
  pub fits : total ≤ customers (caps_of net)
  pub outcomes : List Outcome
  -- they are so many
  pub number : length outcomes ≡ count
  -- each is that of coupling from the past, under the words of the seed and its stream
  pub drawn : AreClosedDrawn net seed total first outcomes
  -- the status tells whether all are met
  pub status : result ≡ table_status outcomes
  -- and out grew by their table
  pub text : after ≡ appended before (text_of_kind steps net seed first outcomes)

-- what is printed is the table of the network's samples or of their paths; of a closed network, unless it isn't one, or can't hold so many
-- customers
abbrev pub IsTabled : Option ℕ → Option (List ℕ) → Option (List ℕ) → Status → Network → (seed first count : ℕ) → Option ℕ → Type 0
IsTabled steps before after result net seed first count None = IsTableOf steps before after result net seed first count
IsTabled steps before after result net seed first count (Some total) =
    IsClosedTableOf steps before after result net seed first count total ⊎ (IsOpen result net ⊎ IsOverfull result net total)

-- what the status says together with what out holds before and after
abbrev pub Means : Asked → (List ℕ → Option (List ℕ)) → Option (List ℕ) → Option (List ℕ) → Status → Type 0
Means asked told before after result =
    OfNetwork told asked.table.net (λ net. IsTabled asked.steps before after result net asked.table.seed asked.table.first asked.table.count asked.table.total)
