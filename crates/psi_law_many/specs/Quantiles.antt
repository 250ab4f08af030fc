-- Intervals for a quantile of a value, and how seldom they miss it.
use Rattle.std.specs.Prelude.{ℕ, ◌-◌, ◌*◌, ◌^◌, ◌≤◌, List, Bool, ◌||◌, if◌then◌else◌, nat_le, nat_lt}
use Rattle.psi_state.specs.declared.Outcome.{Outcome}
use Rattle.psi_law.specs.Counting.{Words}
use Rattle.psi_law.specs.Chains.{Chain, whole, weighted}
use Rattle.psi_law_many.specs.Lists.{AtMost}
use Rattle.psi_law_many.specs.Values.{sum_or}
use Rattle.psi_law_many.specs.Tails.{cases_from}

-- 1 for a state with a property, and 0 for any other
abbrev pub mark : (List ℕ → Bool) → List ℕ → ℕ
mark has x = if has x then 1 else 0

-- how many of the samples of some pasts coalesced in a state with a property
abbrev pub hits : (List ℕ → Bool) → (Words → Outcome) → List Words → ℕ
hits has sample pasts = sum_or 0 (mark has) sample pasts

-- m is a quantile of a value by the weights, that of r of q: states with a smaller value have at most r of q parts of all weight, and states with a greater one at most the other parts
pub record IsQuantile (chain : Chain) (weight value : List ℕ → ℕ) (r q m : ℕ) : Type 0 where
  pub some : 1 ≤ whole chain weight
  pub parts : 1 ≤ q
  pub share : r ≤ q
  pub below : weighted chain weight (mark (λ x. nat_lt (value x) m)) * q ≤ r * whole chain weight
  pub above : weighted chain weight (mark (λ x. nat_lt m (value x))) * q ≤ (q - r) * whole chain weight

-- for at most 1 list of pasts in d are i or more values below a quantile, so that the i-th smallest is; for at most 1 are j or more above it, so that the j-th greatest is; a sample that did not coalesce counts with neither. So an interval between such values misses it for at most 2
pub record HasQuantiles (sample : Words → Outcome) (n : ℕ) (chain : Chain) (weight value : List ℕ → ℕ) : Type 0 where
  pub upper : (k r q d i m : ℕ) → IsQuantile chain weight value r q m → d * cases_from r (q - r) k i ≤ q ^ k
      → AtMost 1 d n k (λ pasts. nat_le i (hits (λ x. nat_lt (value x) m) sample pasts))
  pub lower : (k r q d j m : ℕ) → IsQuantile chain weight value r q m → d * cases_from (q - r) r k j ≤ q ^ k
      → AtMost 1 d n k (λ pasts. nat_le j (hits (λ x. nat_lt m (value x)) sample pasts))
  pub both : (k r q d i j m : ℕ) → IsQuantile chain weight value r q m → d * cases_from r (q - r) k i ≤ q ^ k → d * cases_from (q - r) r k j ≤ q ^ k
      → AtMost 2 d n k (λ pasts. nat_le i (hits (λ x. nat_lt (value x) m) sample pasts) || nat_le j (hits (λ x. nat_lt m (value x)) sample pasts))
