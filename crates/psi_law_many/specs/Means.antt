-- How far the mean of k samples is from the stationary mean (Chebyshev's inequality), and how many lists have a sample that did not coalesce.
use Rattle.std.specs.Prelude.{ℕ, ◌+◌, ◌-◌, ◌*◌, ◌^◌, ◌≤◌, List, nat_le}
use Rattle.std.specs.List.{list_any}
use Rattle.psi_state.specs.declared.Outcome.{Outcome}
use Rattle.psi_law.specs.Counting.{Words}
use Rattle.psi_law.specs.Wheel.{word_count}
use Rattle.psi_law.specs.Chains.{Chain, whole, weighted}
use Rattle.psi_law.specs.Samples.{is_unmet}
use Rattle.psi_law_many.specs.Lists.{count_lists}
use Rattle.psi_law_many.specs.Values.{sum_or}

-- a number times itself
abbrev pub square : ℕ → ℕ
square n = n * n

-- how far a number is below the least or above the greatest number of a range
abbrev pub outside : ℕ → ℕ → ℕ → ℕ
outside least greatest n = (least - n) + (n - greatest)

-- the variance of a value by the weights, times the cube of the sum S of the weights: the sum by the weights of the squares of S times the value less the sum of the value by the weights
abbrev pub spread : Chain → (List ℕ → ℕ) → (List ℕ → ℕ) → ℕ
spread chain weight value =
    weighted chain weight (λ x. square (outside (whole chain weight * value x) (whole chain weight * value x) (weighted chain weight value)))

-- samples under k pasts of n words each, of a chain whose states have weights, and values from low to high
module _ (sample : Words → Outcome) (n : ℕ) (chain : Chain) (weight value : List ℕ → ℕ) (low high k : ℕ) where
  -- how far k times the mean by the weights is outside the sums that the k samples can have, whatever values from low to high those have that did not coalesce; times the sum of the weights
  abbrev pub distance : List Words → ℕ
  distance pasts = outside (whole chain weight * sum_or low value sample pasts) (whole chain weight * sum_or high value sample pasts) (k * weighted chain weight value)

  -- how many lists of k pasts are at least d off
  abbrev pub far : ℕ → ℕ
  far d = count_lists word_count n k (λ pasts. nat_le d (distance pasts))

-- few lists are far off: their share is at most k times the variance divided by the square of the distance (Chebyshev's inequality), and no variance exceeds a quarter of the square of the range (Popoviciu's); plain is the same with the mean itself, e being a distance between sums of values
pub record IsNear (sample : Words → Outcome) (n : ℕ) (chain : Chain) (weight value : List ℕ → ℕ) (low high : ℕ) : Type 0 where
  pub variance : (k d : ℕ) → far sample n chain weight value low high k d * (whole chain weight * square d) ≤ k * spread chain weight value * word_count ^ (n * k)
  pub range : (k d : ℕ) → 1 ≤ whole chain weight
      → far sample n chain weight value low high k d * (4 * square d) ≤ k * square (whole chain weight * (high - low)) * word_count ^ (n * k)
  pub plain : (k e : ℕ) → 1 ≤ whole chain weight
      → far sample n chain weight value low high k (whole chain weight * e) * (4 * square e) ≤ k * square (high - low) * word_count ^ (n * k)

-- how many lists of k pasts have one whose sample did not coalesce
abbrev pub some_unmet : (Words → Outcome) → ℕ → ℕ → ℕ
some_unmet sample n k = count_lists word_count n k (λ pasts. list_any (λ past. is_unmet (sample past)) pasts)
