-- The sums of a path while it is walked: what they come to if the state stays as it is from now on (Abel's summation by parts).
use Rattle.std.specs.Prelude.{◌≡◌, ℕ, ◌+◌, ◌*◌, ◌^◌, ◌<◌, ◌≤◌, ℤ, pos, ◌+ℤ◌, ◌*ℤ◌, List, length, slice_index, slice_index_or}
use Rattle.std.specs.Int.RustNames.{unsigned_abs}
use Rattle.psi_state.specs.State.{IsBelow}
use Rattle.psi_path.specs.Path.{Path, state_of}
use Rattle.psi_path.specs.Sums.{Worth, worth_at, customers_until, worth_until, chosen_until, changed_until}
use Rattle.psi_path.specs.declared.running.Running.{Running}

-- the sums of queues, so many of whose steps are walked and left
pub record QueuesStand (count : ℕ) (path : Path) (walked left : ℕ) (state sums : List ℕ) : Type 0 where
  pub sized : length sums ≡ count
  pub each : (q : ℕ) → q < count → slice_index sums q ≡ customers_until path q walked + left * slice_index state q
  pub few : (q : ℕ) → q < count → customers_until path q walked ≤ (walked + 1) * 65535

-- the sums of rewards, with the value of each in the present state
pub record RewardsStand (worths : List Worth) (path : Path) (walked left : ℕ) (state : List ℕ) (sums values : List ℤ) : Type 0 where
  pub sized : length sums ≡ length worths
  pub valued : length values ≡ length worths
  pub each : (r : ℕ) → r < length worths → slice_index_or sums r (pos 0) ≡ worth_until path (worth_at worths r) walked +ℤ (pos left *ℤ worth_at worths r state)
  pub present : (r : ℕ) → r < length worths → slice_index_or values r (pos 0) ≡ worth_at worths r state
  pub small : (r : ℕ) → r < length worths → unsigned_abs (worth_at worths r state) ≤ 2 ^ 63
  pub few : (r : ℕ) → r < length worths → unsigned_abs (worth_until path (worth_at worths r) walked) ≤ (walked + 1) * 2 ^ 63

-- the counts of the events of the steps that are walked
pub record CountsStand (path : Path) (walked : ℕ) (chosen changed : List ℕ) : Type 0 where
  pub sized : length chosen ≡ length path.rates
  pub also_sized : length changed ≡ length path.rates
  pub each : (e : ℕ) → e < length path.rates → slice_index chosen e ≡ chosen_until path e walked
  pub also : (e : ℕ) → e < length path.rates → slice_index changed e ≡ changed_until path e walked

-- of a path of so many steps all are walked but those that are left
pub record StandsAt (caps : List ℕ) (worths : List Worth) (path : Path) (steps : ℕ) (running : Running) : Type 0 where
  pub walked : ℕ
  pub all : walked + running.left ≡ steps
  pub few : steps < 2 ^ 32
  pub present : running.state ≡ state_of path walked
  pub within : IsBelow running.state caps
  pub queues : QueuesStand (length caps) path walked running.left running.state running.queues.items
  pub rewards : RewardsStand worths path walked running.left running.state running.rewards.items running.values.items
  pub counts : CountsStand path walked running.chosen.items running.changed.items
