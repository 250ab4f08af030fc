-- Sums over the states of the first ranks, each taken a number of times.
use Rattle.std.specs.Prelude.{◌≡◌, ℕ, zero, suc, ◌+◌, ◌*◌, ◌^◌, ◌<◌, ◌≤◌, ℤ, pos, ◌+ℤ◌, ◌*ℤ◌, if◌then◌else◌, List, length, slice_index, slice_index_or}
use Rattle.std.specs.Int.RustNames.{unsigned_abs}
use Rattle.psi_exact.specs.Ranks.{state_at}
use Rattle.psi_path.specs.Sums.{Worth, Sums, worth_at}
use Rattle.psi_path_table.specs.Trail.{Trail, visits_until, left_until, is_same}

-- the sum of what is told of the numbers below n
abbrev pub sum_below : (ℕ → ℕ) → ℕ → ℕ
sum_below g zero = 0
sum_below g (suc n) = sum_below g n + g n

-- the same of integers
abbrev pub integers_below : (ℕ → ℤ) → ℕ → ℤ
integers_below g zero = pos 0
integers_below g (suc n) = integers_below g n +ℤ g n

-- the sums of so many states, and bounds of them
pub record AreSumsBelow (caps : List ℕ) (worths : List Worth) (times : ℕ → ℕ) (count : ℕ) (sums : Sums) : Type 0 where
  pub queue_count : length sums.queues ≡ length caps
  pub reward_count : length sums.rewards ≡ length worths
  pub queues : (q : ℕ) → q < length caps → slice_index sums.queues q ≡ sum_below (λ r. times r * slice_index (state_at caps r) q) count
  pub rewards : (r : ℕ) → r < length worths → slice_index_or sums.rewards r (pos 0) ≡ integers_below (λ k. pos (times k) *ℤ worth_at worths r (state_at caps k)) count
  pub few_queues : (q : ℕ) → q < length caps → slice_index sums.queues q ≤ sum_below times count * 65535
  pub few_rewards : (r : ℕ) → r < length worths → unsigned_abs (slice_index_or sums.rewards r (pos 0)) ≤ sum_below times count * 2 ^ 63

-- the sums of a whole path through a table, which ends at this rank
pub record AreTrailSums (caps : List ℕ) (worths : List Worth) (trail : Trail) (rank : ℕ) (sums : Sums) : Type 0 where
  pub queues : (q : ℕ) → q < length caps → slice_index sums.queues q ≡ sum_below (λ r. left_until trail r trail.steps * slice_index (state_at caps r) q) trail.states + slice_index (state_at caps rank) q
  pub rewards : (r : ℕ) → r < length worths → slice_index_or sums.rewards r (pos 0)
      ≡ integers_below (λ k. pos (left_until trail k trail.steps) *ℤ worth_at worths r (state_at caps k)) trail.states +ℤ worth_at worths r (state_at caps rank)
  pub chosen : (e : ℕ) → e < length trail.rates → slice_index sums.chosen e ≡ sum_below (λ r. visits_until trail e r trail.steps) trail.states
  pub changed : (e : ℕ) → e < length trail.rates → slice_index sums.changed e ≡ sum_below (λ r. visits_until trail e r trail.steps * (if is_same trail e r then 0 else 1)) trail.states
