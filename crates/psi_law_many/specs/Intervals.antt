-- Intervals for a mean from the total score, and how seldom they miss it.
use Rattle.std.specs.Prelude.{◌≡◌, ℕ, ◌+◌, ◌-◌, ◌*◌, ◌^◌, ◌≤◌, ◌⊎◌, List, Bool, ◌||◌, nat_lt}
use Rattle.std.specs.List.{sum_by}
use Rattle.psi_law.specs.Counting.{Words}
use Rattle.psi_law_many.specs.Lists.{AtMost}
use Rattle.psi_law_many.specs.Values.{Score}
use Rattle.psi_law_many.specs.Tails.{cases_from}

-- whether the mean of a score is less than r of q, so that the claim of at least r of q is false
abbrev pub overstates : Score → ℕ → ℕ → Bool
overstates s q r = nat_lt (s.part * q) (r * s.whole)

-- a certificate, two numbers a and b, that k scores from 0 to z whose mean is at most r of q have a total of i or more for at most 1 list in d (Chernoff 1952)
pub record IsChernoff (k z q d i r : ℕ) : Type 0 where
  pub a : ℕ
  pub b : ℕ
  pub some : 1 ≤ a
  pub order : b ≤ a
  pub share : r ≤ q * z
  pub few : d * (r * a ^ z + (q * z - r) * b ^ z) ^ k ≤ a ^ i * b ^ (k * z - i) * (q * z) ^ k

-- the same for scores of 0 and 1, by the binomial distribution (Clopper and Pearson 1934)
pub record IsBinomial (k z q d i r : ℕ) : Type 0 where
  pub one : z ≡ 1
  pub share : r ≤ q
  pub few : d * cases_from r (q - r) k i ≤ q ^ k

-- a rule that claims from the total i of k scores from 0 to z that their mean is at least rule i of q: it claims 0, or what a certificate supports
pub record IsRule (k z q d : ℕ) (rule : ℕ → ℕ) : Type 0 where
  pub each : (i : ℕ) → i ≤ k * z → (rule i ≡ 0) ⊎ (IsChernoff k z q d i (rule i) ⊎ IsBinomial k z q d i (rule i))

-- whether the claim of a rule is false for some pasts
abbrev pub misses : Score → ℕ → (ℕ → ℕ) → List Words → Bool
misses s q rule pasts = overstates s q (rule (sum_by s.score pasts))

-- the claims of a rule are false for at most 1 list of pasts in d, for either of two scores; so an interval with both ends misses a mean for at most 2
pub record HasIntervals (n : ℕ) (s t : Score) : Type 0 where
  pub lower : (k q d : ℕ) (rule : ℕ → ℕ) → IsRule k s.top q d rule → AtMost 1 d n k (misses s q rule)
  pub upper : (k q d : ℕ) (rule : ℕ → ℕ) → IsRule k t.top q d rule → AtMost 1 d n k (misses t q rule)
  pub both : (k q d : ℕ) (rule other : ℕ → ℕ) → IsRule k s.top q d rule → IsRule k t.top q d other → AtMost 2 d n k (λ pasts. misses s q rule pasts || misses t q other pasts)
