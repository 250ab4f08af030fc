-- Sums with one state more.
use Rattle.std.specs.Prelude.{◌≡◌, ℕ, suc, ◌+◌, ◌*◌, ◌^◌, ◌<◌, ◌≤◌, ℤ, pos, ◌+ℤ◌, ◌*ℤ◌, List, length, slice_index, slice_index_or}
use Rattle.std.specs.Int.RustNames.{unsigned_abs}
use Rattle.std.proofs.Common.{ap, sym, ◌∙◌, subst, arith}
use Rattle.std.proofs.Math.Nat.{mul-le-mul_left}
use Rattle.std.proofs.lemmas.Int.{ints, unsigned_abs-mul}
use Rattle.psi_exact.specs.Ranks.{state_at}
use Rattle.psi_path.specs.Sums.{Worth, Sums, worth_at}
use Rattle.psi_path.proofs.IntegerLemmas.{unsigned_abs-add}
use Rattle.psi_path_table.specs.Inner.SumsKept.{sum_below, integers_below, AreSumsBelow}

-- what a call adds for a state that is taken a number of times
pub record IsAdded (caps : List ℕ) (worths : List Worth) (times : ℕ) (x : List ℕ) (old new : Sums) : Type 0 where
  pub queue_count : length new.queues ≡ length old.queues
  pub reward_count : length new.rewards ≡ length old.rewards
  pub queues : (q : ℕ) → q < length old.queues → slice_index new.queues q ≡ slice_index old.queues q + times * slice_index x q
  pub rewards : (r : ℕ) → r < length worths → slice_index_or new.rewards r (pos 0) ≡ slice_index_or old.rewards r (pos 0) +ℤ (pos times *ℤ worth_at worths r x)
  pub few : (q : ℕ) → q < length caps → slice_index x q ≤ 65535
  pub small : (r : ℕ) → r < length worths → unsigned_abs (worth_at worths r x) ≤ 2 ^ 63

module _ (caps : List ℕ) (worths : List Worth) (times : ℕ → ℕ) (count visits : ℕ) (x : List ℕ) (old new : Sums) (counted : visits ≡ times count) (is : state_at caps count ≡ x)
    (added : IsAdded caps worths visits x old new) (sums : AreSumsBelow caps worths times count old) where
  queue-next : (q : ℕ) → q < length caps → slice_index new.queues q ≡ sum_below (λ r. times r * slice_index (state_at caps r) q) (suc count)
  queue-next q small =
      let own : q < length old.queues = (let s = sums.queue_count in omega arith) in
      let after = added.queues q own in
      let before = sums.queues q small in
      let same : visits * slice_index x q ≡ times count * slice_index (state_at caps count) q = ap (λ n. n * slice_index x q) counted ∙ ap (λ (y : List ℕ). times count * slice_index y q) (sym is) in
      omega arith

  queue-few : (q : ℕ) → q < length caps → slice_index new.queues q ≤ sum_below times (suc count) * 65535
  queue-few q small =
      let own : q < length old.queues = (let s = sums.queue_count in omega arith) in
      let after = added.queues q own in
      let before = sums.few_queues q small in
      let most = mul-le-mul_left visits (added.few q small) in
      omega arith

  reward-next : (r : ℕ) → r < length worths → slice_index_or new.rewards r (pos 0) ≡ integers_below (λ k. pos (times k) *ℤ worth_at worths r (state_at caps k)) (suc count)
  reward-next r small =
      added.rewards r small
      ∙ ap (λ z. z +ℤ (pos visits *ℤ worth_at worths r x)) (sums.rewards r small)
      ∙ ap (λ n. integers_below (λ k. pos (times k) *ℤ worth_at worths r (state_at caps k)) count +ℤ (pos n *ℤ worth_at worths r x)) counted
      ∙ ap (λ (y : List ℕ). integers_below (λ k. pos (times k) *ℤ worth_at worths r (state_at caps k)) count +ℤ (pos (times count) *ℤ worth_at worths r y)) (sym is)

  reward-few : (r : ℕ) → r < length worths → unsigned_abs (slice_index_or new.rewards r (pos 0)) ≤ sum_below times (suc count) * 2 ^ 63
  reward-few r small =
      let w = worth_at worths r x in
      let before = sums.few_rewards r small in
      let e : unsigned_abs (slice_index_or new.rewards r (pos 0)) ≡ unsigned_abs (slice_index_or old.rewards r (pos 0) +ℤ (pos visits *ℤ w)) = ap (λ z. unsigned_abs z) (added.rewards r small) in
      let both = unsigned_abs-add (slice_index_or old.rewards r (pos 0)) (pos visits *ℤ w) in
      let product = unsigned_abs-mul (pos visits) w in
      let most = mul-le-mul_left visits (added.small r small) in
      omega arith

  sums-suc : AreSumsBelow caps worths times (suc count) new
  sums-suc = record {
    queue_count = added.queue_count ∙ sums.queue_count;
    reward_count = added.reward_count ∙ sums.reward_count;
    queues = queue-next;
    rewards = reward-next;
    few_queues = queue-few;
    few_rewards = reward-few;
  }

  pub sums-more : AreSumsBelow caps worths times (count + 1) new
  sums-more = (let e : suc count ≡ count + 1 = omega arith in subst (λ n. AreSumsBelow caps worths times n new) e sums-suc)

-- the sums are far from the greatest numbers
pub queues-fit : (caps : List ℕ) (worths : List Worth) (times : ℕ → ℕ) (count : ℕ) (sums : Sums) → sum_below times count ≤ 4290772992 → AreSumsBelow caps worths times count sums
    → (q : ℕ) → q < length sums.queues → slice_index sums.queues q ≤ 2 ^ 49
queues-fit caps worths times count sums few are q small =
    let own : q < length caps = (let s = are.queue_count in omega arith) in
    let bound = are.few_queues q own in omega arith

pub rewards-fit : (caps : List ℕ) (worths : List Worth) (times : ℕ → ℕ) (count : ℕ) (sums : Sums) → sum_below times count ≤ 4290772992 → AreSumsBelow caps worths times count sums
    → (r : ℕ) → r < length worths → unsigned_abs (slice_index_or sums.rewards r (pos 0)) ≤ 2 ^ 96
rewards-fit caps worths times count sums few are r small = (let bound = are.few_rewards r small in omega arith)

-- a state that is taken once
pub once-more : (s n : ℕ) → s + 1 * n ≡ s + n
once-more s n = omega arith

pub one-value : (w : ℤ) → pos 1 *ℤ w ≡ w
one-value w = omega (arith, ints)

-- a sum with one number more
pub sum-next : (f : ℕ → ℕ) (n sum more : ℕ) → sum ≡ sum_below f n → more ≡ f n → sum + more ≡ sum_below f (n + 1)
sum-next f n sum more is own = (let e : suc n ≡ n + 1 = omega arith in subst (λ k. sum + more ≡ sum_below f k) e (omega arith))
