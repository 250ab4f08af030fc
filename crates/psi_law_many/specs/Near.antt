-- How far the total of numbers that are known between two scores is from its mean (Chebyshev's inequality).
use Rattle.std.specs.Prelude.{ℕ, ◌-◌, ◌*◌, ◌^◌, ◌≤◌, List, nat_le}
use Rattle.std.specs.List.{sum_by}
use Rattle.psi_law.specs.Counting.{Words}
use Rattle.psi_law.specs.Wheel.{word_count}
use Rattle.psi_law_many.specs.Lists.{count_lists}
use Rattle.psi_law_many.specs.Values.{Score}
use Rattle.psi_law_many.specs.Means.{square, outside}

-- a number of each of k pasts, from 0 to the top: at least the score s, and at least the score t below the top
module _ (s t : Score) (k : ℕ) where
  -- how far k times the mean that s is compared with is outside the totals that the numbers of these pasts can have; times the whole
  abbrev pub deviation : List Words → ℕ
  deviation pasts = outside (s.whole * sum_by s.score pasts) (s.whole * sum_by (λ past. s.top - t.score past) pasts) (k * s.part)

  -- how many lists of k pasts, of n words each, are at least d off
  abbrev pub deviating : ℕ → ℕ → ℕ
  deviating n d = count_lists word_count n k (λ pasts. nat_le d (deviation pasts))

-- few lists are far off, since no variance exceeds a quarter of the square of the range (Chebyshev's and Popoviciu's inequalities); plain is the same with the mean itself, e being a distance between totals
pub record HasNear (n : ℕ) (s t : Score) : Type 0 where
  pub range : (k d : ℕ) → deviating s t k n d * (4 * square d) ≤ k * square (s.whole * s.top) * word_count ^ (n * k)
  pub plain : (k e : ℕ) → 1 ≤ s.whole → deviating s t k n (s.whole * e) * (4 * square e) ≤ k * square s.top * word_count ^ (n * k)
