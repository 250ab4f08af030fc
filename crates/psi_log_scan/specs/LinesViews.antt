-- What the end of a set's line is seen as.
use Rattle.std.specs.Prelude.{ℕ, ◌+◌, ◌≤◌, List, length, take, drop}
use Rattle.psi_log_scan.specs.Scanned.{TellsSet}
use Rattle.psi_log_scan.specs.declared.set_line.LastSet.{LastSet}

-- the states that the end of a line told as a set stand in the list
pub record IsLast (queues : ℕ) (states : List (List ℕ)) (last : LastSet) : Type 0 where
  pub there : last.first + last.count ≤ length states
  pub told : TellsSet queues last.text.now (take last.count (drop last.first states))
