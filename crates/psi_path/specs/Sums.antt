-- What is summed and counted along a path.
use Rattle.std.specs.Prelude.{◌≡◌, ℕ, zero, suc, ◌+◌, ◌<◌, ℤ, pos, ◌+ℤ◌, List, length, replicate, slice_index, slice_index_or, Bool, ◌&&◌, nat_eq, if◌then◌else◌}
use Rattle.psi_path.specs.Path.{Path, state_of, event_after, is_changed}

-- the sum of what is told of the times 0, 1, .., n
abbrev pub sum_until : (ℕ → ℕ) → ℕ → ℕ
sum_until g zero = g zero
sum_until g (suc n) = sum_until g n + g (suc n)

-- the same of integers
abbrev pub integers_until : (ℕ → ℤ) → ℕ → ℤ
integers_until g zero = g zero
integers_until g (suc n) = integers_until g n +ℤ g (suc n)

-- how many of the times 1, 2, .., n have a property
abbrev pub count_until : (ℕ → Bool) → ℕ → ℕ
count_until has zero = 0
count_until has (suc n) = count_until has n + (if has (suc n) then 1 else 0)

-- what a reward makes of each state
abbrev pub Worth : Type 0
Worth = List ℕ → ℤ

-- that of the reward of this number
abbrev pub worth_at : List Worth → ℕ → Worth
worth_at worths r = slice_index_or worths r (λ x. pos 0)

module _ (path : Path) where
  -- the customers of queue q, summed over the states at the times 0, 1, .., n
  abbrev pub customers_until : ℕ → ℕ → ℕ
  customers_until q n = sum_until (λ k. slice_index (state_of path k) q) n

  -- the values of a reward, summed over the same states
  abbrev pub worth_until : Worth → ℕ → ℤ
  worth_until worth n = integers_until (λ k. worth (state_of path k)) n

  -- at how many of the times 1, 2, .., n event e is chosen
  abbrev pub chosen_until : ℕ → ℕ → ℕ
  chosen_until e n = count_until (λ k. nat_eq (event_after path k) e) n

  -- at how many of these it changes the state
  abbrev pub changed_until : ℕ → ℕ → ℕ
  changed_until e n = count_until (λ k. nat_eq (event_after path k) e && is_changed path k) n

-- sums of a path: of the customers of each queue, and of the values of each reward; and for each event how often it is chosen, and how often it changes the state
pub record Sums : Type 0 where
  pub queues : List ℕ
  pub rewards : List ℤ
  pub chosen : List ℕ
  pub changed : List ℕ

-- they are of so many queues, rewards and events
pub record HasCounts (queues rewards events : ℕ) (sums : Sums) : Type 0 where
  pub own_queues : length sums.queues ≡ queues
  pub own_rewards : length sums.rewards ≡ rewards
  pub own_chosen : length sums.chosen ≡ events
  pub own_changed : length sums.changed ≡ events

-- they are those of a path of so many steps: of so many queues, of so many rewards, which make this of each state, and of so many events
pub record ArePathSums (queue_count reward_count event_count : ℕ) (worths : List Worth) (path : Path) (steps : ℕ) (sums : Sums) : Type 0 where
  pub queues : (q : ℕ) → q < queue_count → slice_index sums.queues q ≡ customers_until path q steps
  pub rewards : (r : ℕ) → r < reward_count → slice_index_or sums.rewards r (pos 0) ≡ worth_until path (worth_at worths r) steps
  pub chosen : (e : ℕ) → e < event_count → slice_index sums.chosen e ≡ chosen_until path e steps
  pub changed : (e : ℕ) → e < event_count → slice_index sums.changed e ≡ changed_until path e steps

-- as many sums and counts, all of which are 0
abbrev pub cleared : Sums → Sums
cleared sums = record {
  queues = replicate (length sums.queues) 0;
  rewards = replicate (length sums.rewards) (pos 0);
  chosen = replicate (length sums.chosen) 0;
  changed = replicate (length sums.changed) 0;
}
