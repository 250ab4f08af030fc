-- How seldom the total score of k pasts is large.
use Rattle.std.specs.Prelude.{◌≡◌, ℕ, zero, suc, ◌+◌, ◌-◌, ◌*◌, ◌^◌, ◌≤◌, nat_le}
use Rattle.std.specs.List.{sum_by}
use Rattle.psi_law.specs.Wheel.{word_count}
use Rattle.psi_law_many.specs.Lists.{count_lists}
use Rattle.psi_law_many.specs.Values.{Score}

-- of k draws, each of which is 1 in u of u + v cases and 0 in the other v: the cases in which i or more are 1 (the upper tail of the binomial distribution)
unfoldable pub cases_from : ℕ → ℕ → ℕ → ℕ → ℕ
cases_from u v zero zero = 1
cases_from u v zero (suc i) = 0
cases_from u v (suc k) zero = (u + v) * cases_from u v k zero
cases_from u v (suc k) (suc i) = u * cases_from u v k i + v * cases_from u v k (suc i)

-- how many lists of k pasts of n words have a total score of at least i
abbrev pub at_least : ℕ → ℕ → Score → ℕ → ℕ
at_least n k s i = count_lists word_count n k (λ pasts. nat_le i (sum_by s.score pasts))

-- few lists have a large total: by the exponential inequality with any a and b, of which a is not less (Chernoff 1952); and scores of 0 and 1 exceed i as seldom as draws with this mean
pub record IsTailed (n : ℕ) (s : Score) : Type 0 where
  pub exponential : (k a b i j : ℕ) → b ≤ a → i + j ≡ k * s.top
      → at_least n k s i * (a ^ i * b ^ j) * (s.whole * s.top) ^ k ≤ (s.part * a ^ s.top + (s.whole * s.top - s.part) * b ^ s.top) ^ k * word_count ^ (n * k)
  pub binomial : (k i : ℕ) → s.top ≡ 1 → at_least n k s i * s.whole ^ k ≤ cases_from s.part (s.whole - s.part) k i * word_count ^ (n * k)
