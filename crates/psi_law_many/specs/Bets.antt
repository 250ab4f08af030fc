-- Intervals for a mean from all scores, by betting (Waudby-Smith and Ramdas 2024), and how seldom they miss it.
use Rattle.std.specs.Prelude.{◌≡◌, ℕ, ◌+◌, ◌-◌, ◌*◌, ◌^◌, ◌≤◌, ◌⊎◌, List, [], ◌∷◌, length, map, Bool, ◌||◌}
use Rattle.std.specs.List.{sum_by}
use Rattle.psi_state.specs.Members.{In}
use Rattle.psi_law.specs.Counting.{Words}
use Rattle.psi_law_many.specs.Lists.{AtMost}
use Rattle.psi_law_many.specs.Values.{Score}
use Rattle.psi_law_many.specs.Intervals.{overstates}

-- what one unit becomes by a bet of s of t on a score v, 1 + s / t * (v - r / q), times t * q: it stays 1 on the average where the mean is r of q
abbrev pub paid : ℕ → ℕ → ℕ → ℕ → ℕ → ℕ
paid t q r s v = t * q - s * r + s * q * v

-- the product of g over some numbers
unfoldable pub product_by : (ℕ → ℕ) → List ℕ → ℕ
product_by g [] = 1
product_by g (v ∷ vs) = g v * product_by g vs

-- a certificate that the mean of k scores is at least r of q, but for 1 list in d: no bet can lose more than there is, and what all stakes become, bet on one score after the other, is at least d times what they began with
pub record IsWon (t q d r : ℕ) (stakes scores : List ℕ) : Type 0 where
  pub each : (s : ℕ) → In s stakes → s * r ≤ t * q
  pub much : d * (length stakes * (t * q) ^ length scores) ≤ sum_by (λ s. product_by (paid t q r s) scores) stakes

-- a rule that claims from all k scores that their mean is at least rule scores of q: it claims 0, or what the certificate supports; the stakes are the same for all lists of scores
pub record IsBet (k t q d : ℕ) (stakes : List ℕ) (rule : List ℕ → ℕ) : Type 0 where
  pub some : 1 ≤ length stakes
  pub parts : 1 ≤ t * q
  pub each : (scores : List ℕ) → length scores ≡ k → (rule scores ≡ 0) ⊎ IsWon t q d (rule scores) stakes scores

-- whether the claim of such a rule is false for some pasts
abbrev pub loses : Score → ℕ → (List ℕ → ℕ) → List Words → Bool
loses s q rule pasts = overstates s q (rule (map s.score pasts))

-- the claims of such a rule are false for at most 1 list of pasts in d, for either of two scores; so an interval with both ends misses a mean for at most 2
pub record HasBets (n : ℕ) (s o : Score) : Type 0 where
  pub lower : (k t q d : ℕ) (stakes : List ℕ) (rule : List ℕ → ℕ) → IsBet k t q d stakes rule → AtMost 1 d n k (loses s q rule)
  pub upper : (k t q d : ℕ) (stakes : List ℕ) (rule : List ℕ → ℕ) → IsBet k t q d stakes rule → AtMost 1 d n k (loses o q rule)
  pub both : (k t q d : ℕ) (stakes others : List ℕ) (rule other : List ℕ → ℕ) → IsBet k t q d stakes rule → IsBet k t q d others other
      → AtMost 2 d n k (λ pasts. loses s q rule pasts || loses o q other pasts)
