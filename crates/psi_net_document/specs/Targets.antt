-- What a list of queues that is read keeps: its queues differ, and are queues of the network, none of them a source.
use Rattle.std.specs.Prelude.{◌≡◌, ℕ, List, Bool, true, false, not, nat_lt}
use Rattle.std.specs.List.{list_all}
use Rattle.psi_state.specs.Repeats.{repeats}
use Rattle.psi_net_document.specs.References.{is_in}

-- each is below n
abbrev pub are_below : ℕ → List ℕ → Bool
are_below n queues = list_all (λ queue. nat_lt queue n) queues

-- the queues differ, are among n, and none of them is a source
pub record AreTargets (n : ℕ) (sources queues : List ℕ) : Type 0 where
  pub distinct : repeats queues ≡ false
  pub within : are_below n queues ≡ true
  pub apart : list_all (λ queue. not (is_in queue sources)) queues ≡ true
