-- The law of paths: at each time their states have the law of the weights, and sums along them its mean.
use Rattle.std.specs.Prelude.{◌≡◌, ℕ, zero, suc, ◌+◌, ◌-◌, ◌*◌, ◌^◌, ◌≤◌, List, refl}
use Rattle.std.proofs.Common.{ap, sym, ◌∙◌, arith}
use Rattle.std.proofs.Math.Nat.{mul-le-mul_left}
use Rattle.std.proofs.lemmas.Nat.{pow-add}
use Rattle.psi_state.specs.declared.Outcome.{Outcome}
use Rattle.psi_state.specs.declared.Outcome.TheVariants.{Met, NotMet}
use Rattle.psi_rate.proofs.PowersLemmas.{pow-order}
use Rattle.psi_path.specs.Path.{first_place}
use Rattle.psi_path.specs.Sums.{sum_until}
use Rattle.psi_law.specs.Counting.{Words, sum_pasts}
use Rattle.psi_law.specs.Wheel.{word_count}
use Rattle.psi_law.specs.Chains.{Chain, IsChain, end_of, whole, weighted, IsBalanced}
use Rattle.psi_law.specs.Samples.{Reaches, is_unmet, unmet, HasMean}
use Rattle.psi_law.specs.Statements.{LooksAtFirst}
use Rattle.psi_law.proofs.SumsLemmas.{one_if, sum-same, sum-times, sum_pasts-is, pasts-constant}
use Rattle.psi_law.proofs.ChainLemmas.{Own, end_of-keeps}
use Rattle.psi_law.proofs.JoinedLemmas.{joined, sum_pasts-joined, joined-newer}
use Rattle.psi_law.proofs.BalanceLemmas.{over-weighted}
use Rattle.psi_law.proofs.LawLemmas.{MeetsAt, IsSteady, law-is, mean-is}
use Rattle.psi_law.proofs.LawfulLemmas.{IsLawful}
use Rattle.psi_law_many.specs.Values.{value_or, IsMeasured, Score}
use Rattle.psi_law_many.specs.Intervals.{HasIntervals}
use Rattle.psi_law_many.specs.Bets.{HasBets}
use Rattle.psi_law_many.specs.Statements.{HasTails}
use Rattle.psi_law_many.proofs.ScoreLemmas.{IsScore, or-between, or-sum}
use Rattle.psi_law_many.proofs.IntervalLemmas.{has-intervals}
use Rattle.psi_law_many.proofs.BetsLemmas.{has-bets}
use Rattle.psi_law_many.proofs.ManyLemmas.{has-tails, reaches-within}
use Rattle.psi_law_paths.specs.Paths.{outcome_by, sample_at, path_sum, path_surplus, path_deficit}
use Rattle.psi_law_paths.specs.Statements.{PathIsStationary, PathHasMean, PathHas, UnmetAsSamples}
use Rattle.psi_law_paths.proofs.AlongLemmas.{reached, reached-keeps}
use Rattle.psi_law_paths.proofs.FutureLemmas.{weighted-paths}

-- ---- the outcome at a time: where it is met in y, the run of every state was in y at time zero

by-meets : (o : Outcome) (f : List ℕ → List ℕ) (z : List ℕ) → MeetsAt z o → MeetsAt (f z) (outcome_by f o)
by-meets (Met t y) f z at = λ u v met. (let same : f y ≡ v = cc in ap f (at t y refl) ∙ same)
by-meets (NotMet l) f z at = λ u v met. absurd cc

by-unmet : (o : Outcome) (f : List ℕ → List ℕ) → is_unmet (outcome_by f o) ≡ is_unmet o
by-unmet (Met t y) f = refl
by-unmet (NotMet l) f = refl

-- ---- sums over times

sum_until-most : (g : ℕ → ℕ) (c m : ℕ) → ((k : ℕ) → g k ≤ c) → sum_until g m ≤ suc m * c
sum_until-most g c zero few = (let first = few zero in omega arith)
sum_until-most g c (suc m) few = (let rest = sum_until-most g c m few in let last = few (suc m) in omega arith)

-- what holds of the sum over all words at each time holds of the sum along the path
sums-under : (n : ℕ) (g : ℕ → Words → ℕ) (s c m steps : ℕ) → ((k : ℕ) → k ≤ steps → s * sum_pasts word_count n (g k) ≤ c) → m ≤ steps
    → s * sum_pasts word_count n (λ words. sum_until (λ k. g k words) m) ≤ suc m * c
sums-under n g s c zero steps each small = (let first = each zero small in omega arith)
sums-under n g s c (suc m) steps each small =
    let more = ap (λ (x : ℕ). s * x) ((sum_pasts-is word_count n).more (λ words. sum_until (λ k. g k words) m) (g (suc m))) in
    let rest = sums-under n g s c m steps each (omega arith) in
    let last = each (suc m) small in omega arith

sums-over : (n : ℕ) (g : ℕ → Words → ℕ) (s c m steps : ℕ) → ((k : ℕ) → k ≤ steps → c ≤ s * sum_pasts word_count n (g k)) → m ≤ steps
    → suc m * c ≤ s * sum_pasts word_count n (λ words. sum_until (λ k. g k words) m)
sums-over n g s c zero steps each small = (let first = each zero small in omega arith)
sums-over n g s c (suc m) steps each small =
    let more = ap (λ (x : ℕ). s * x) ((sum_pasts-is word_count n).more (λ words. sum_until (λ k. g k words) m) (g (suc m))) in
    let rest = sums-over n g s c m steps each (omega arith) in
    let last = each (suc m) small in omega arith

-- ---- samples that all states reach, and the paths that begin in them

module _ (chain : Chain) (sample : Words → Outcome) (first : ℕ) (is : IsChain chain) (reaches : Reaches chain sample first) where
  -- the state at time k of the run of a state that begins before the past
  abbrev at : ℕ → Words → List ℕ → List ℕ
  at k words x = reached chain first words k (end_of chain words first x)

  at-steady : (weight : List ℕ → ℕ) (steps k : ℕ) → IsBalanced chain weight → k ≤ steps → IsSteady chain weight (first + steps) (at k)
  at-steady weight steps k balanced small = record {
    keeps = λ words x own. reached-keeps chain first words k (end_of chain words first x) is.finite (end_of-keeps chain words first x is.finite own);
    still = λ h. weighted-paths chain weight is first steps k h small balanced;
  }

  at-meets : (k : ℕ) (words : Words) (x : List ℕ) → Own chain x → MeetsAt (at k words x) (sample_at chain sample first k words)
  at-meets k words x own = by-meets (sample words) (reached chain first words k) (end_of chain words first x) (reaches.each words x own)

  path-stationary : PathIsStationary chain sample first
  path-stationary = λ weight steps k balanced small.
      law-is chain weight (first + steps) (at k) (at-steady weight steps k balanced small) (sample_at chain sample first k) (at-meets k) is

  -- the mean at each time
  at-mean : (weight value : List ℕ → ℕ) (low high steps k : ℕ) → IsMeasured chain weight value low high → k ≤ steps
      → HasMean (sample_at chain sample first k) (first + steps) chain weight value low high
  at-mean weight value low high steps k measured small =
      mean-is chain weight (first + steps) (at k) (at-steady weight steps k measured.balanced small) (sample_at chain sample first k) (at-meets k) value low high measured.above measured.below

  path-mean : PathHasMean chain sample first
  path-mean = λ weight value low high steps measured.
      (let n = first + steps in
      let c = weighted chain weight value * word_count ^ n in
      let under = sums-under n (λ k words. value_or low value (sample_at chain sample first k words)) (whole chain weight) c steps steps
      (λ k small. (let mean = (at-mean weight value low high steps k measured small).least in let sum = ap (λ (x : ℕ). whole chain weight * x) (or-sum (sample_at chain sample first k) n value low) in omega arith)) (omega arith) in
      let over = sums-over n (λ k words. value_or high value (sample_at chain sample first k words)) (whole chain weight) c steps steps
      (λ k small. (let mean = (at-mean weight value low high steps k measured small).most in let sum = ap (λ (x : ℕ). whole chain weight * x) (or-sum (sample_at chain sample first k) n value high) in omega arith)) (omega arith) in
      record { least = omega arith; most = omega arith })

  -- a value from 0 to top is a score, summed along a path
  path-score : (weight value : List ℕ → ℕ) (top steps : ℕ) → IsMeasured chain weight value 0 top
      → IsScore (first + steps) (record { score = path_sum chain sample first 0 value steps; top = suc steps * top; part = suc steps * weighted chain weight value; whole = whole chain weight })
  path-score weight value top steps measured =
      let some = is.finite.some in
      record {
        most = λ words. sum_until-most (λ k. value_or 0 value (sample_at chain sample first k words)) top steps
            (λ k. (let own = (at-steady weight k k measured.balanced (omega arith)).keeps words some.0 some.1 in
            (or-between (sample_at chain sample first k words) (at k words some.0) value 0 0 top (omega arith) (measured.below (at k words some.0) own) (omega arith) (omega arith)
            (at-meets k words some.0 some.1)).1));
        mean = (path-mean weight value 0 top steps measured).least;
        share = (let most = over-weighted chain weight value top measured.below in let all = mul-le-mul_left (suc steps) most in omega arith);
      }

  path-has : (Claim : ℕ → Score → Score → Type 0) → ((n : ℕ) (s t : Score) → IsScore n s → IsScore n t → Claim n s t) → PathHas chain sample first Claim
  path-has Claim holds = λ weight value low high steps measured.
      holds (first + steps) (path_surplus chain sample first weight value low high steps) (path_deficit chain sample first weight value low high steps)
      (path-score weight (λ x. value x - low) (high - low) steps (record { balanced = measured.balanced; above = λ x own. omega arith; below = λ x own. (let below = measured.below x own in omega arith) }))
      (path-score weight (λ x. high - value x) (high - low) steps (record { balanced = measured.balanced; above = λ x own. omega arith; below = λ x own. (let above = measured.above x own in omega arith) }))

-- ---- samples that look at the first n words

unmet-share : (chain : Chain) (sample : Words → Outcome) (first n : ℕ) → LooksAtFirst sample n → n ≤ first → UnmetAsSamples chain sample first n
unmet-share chain sample first n looks small = λ steps k.
    (let w = word_count in
    let j = first + steps - n in
    let e : n + j ≡ first + steps = omega arith in
    let pasts = sum_pasts-is w n in
    let own : Words → ℕ = λ p. one_if (is_unmet (sample p)) in
    let all = sum-same (sum_pasts w (first + steps)) (sum_pasts-is w (first + steps)) (λ words. one_if (is_unmet (sample_at chain sample first k words))) own
    (λ words. ap one_if (by-unmet (sample words) (reached chain first words k))) in
    let parted : sum_pasts w (first + steps) own ≡ sum_pasts w n (λ p. sum_pasts w j (λ q. own (joined n p q))) = ap (λ m. sum_pasts w m own) (sym e) ∙ sum_pasts-joined w n j own in
    let inner = sum-same (sum_pasts w n) pasts (λ p. sum_pasts w j (λ q. own (joined n p q))) (λ p. w ^ j * own p)
    (λ p. sum-same (sum_pasts w j) (sum_pasts-is w j) (λ q. own (joined n p q)) (λ q. own p)
    (λ q. ap (λ o. one_if (is_unmet o)) (looks (joined n p q) p (λ i within. joined-newer n p q i within)))
    ∙ (pasts-constant w j (own p) ∙ omega arith)) in
    let out = sum-times (sum_pasts w n) pasts (w ^ j) own in
    let power : unmet sample n * w ^ (first + steps) ≡ unmet sample n * (w ^ n * w ^ j) = ap (λ m. unmet sample n * m) (ap (λ m. w ^ m) (sym e) ∙ pow-add w n j) in
    rw (all ∙ (parted ∙ (inner ∙ out))) (omega arith))

-- all statements together
pub record ArePaths (chain : Chain) (sample : Words → Outcome) (first n : ℕ) : Type 0 where
  pub stationary : PathIsStationary chain sample first
  pub mean : PathHasMean chain sample first
  pub tails : PathHas chain sample first HasTails
  pub intervals : PathHas chain sample first HasIntervals
  pub bets : PathHas chain sample first HasBets
  pub unmet : UnmetAsSamples chain sample first n

-- they hold of samples with a limit, which look at words below the place of the word of time 1
pub are-paths : {chain : Chain} {sample : Words → Outcome} (limit : ℕ) → IsLawful chain sample (2 ^ limit) → limit ≤ 22 → ArePaths chain sample first_place (2 ^ limit)
unfolding first_place
are-paths {chain} {sample} limit laws most =
    let is = laws.is_chain in
    let small : 2 ^ limit ≤ first_place = pow-order limit 22 most in
    let reaches = reaches-within chain sample (2 ^ limit) first_place is laws.reaches small in
    record {
      stationary = path-stationary chain sample first_place is reaches;
      mean = path-mean chain sample first_place is reaches;
      tails = path-has chain sample first_place is reaches HasTails has-tails;
      intervals = path-has chain sample first_place is reaches HasIntervals has-intervals;
      bets = path-has chain sample first_place is reaches HasBets has-bets;
      unmet = unmet-share chain sample first_place (2 ^ limit) laws.words small;
    }
