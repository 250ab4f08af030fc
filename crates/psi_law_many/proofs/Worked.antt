-- The definitions on small inputs, counted by hand and computed by the checker. The modulus of the networks is 4, so lists of pasts are counted of
-- the words below 4.
use Rattle.std.proofs.Common.{◌≡◌, ℕ, ◌+◌, ◌-◌, ◌≤◌, ◌^◌, ◌*◌, List, [], ◌∷◌, map, slice_index, inl, inr, sym, subst, refl, arith}
use Rattle.std.specs.Prelude.{Bool, true, false, ◌||◌, nat_le, nat_lt, nat_eq, if◌then◌else◌}
use Rattle.std.specs.List.{list_any, sum_by}
use Rattle.std.proofs.Math.Nat.{one-le-pow}
use Rattle.std.proofs.lemmas.Bool.{cases_eq, ne_eqb, cases_Bool}
use Rattle.psi_state.proofs.StatesLemmas.{same-from_eq}
use Rattle.psi_kinds.specs.Kinds.{do_kind}
use Rattle.psi_rate.specs.Rates.{least_power, event_of}
use Rattle.psi_rate.specs.Doubling.{first_answer}
use Rattle.psi_rate.specs.Outcomes.{outcome_within}
use Rattle.psi_region.specs.Region.{step}
use Rattle.psi_report.specs.Samples.{met_states}
use Rattle.psi_report.specs.Report.{contents_of}
use Rattle.psi_law.specs.Counting.{Words, sum_below}
use Rattle.psi_law.specs.Wheel.{word_count}
use Rattle.psi_law.specs.Chains.{whole, weighted, IsBalanced, is_same}
use Rattle.psi_law.specs.Samples.{is_unmet}
use Rattle.psi_law.specs.Networks.{network_chain, network_sample}
use Rattle.psi_law.proofs.NetworkLemmas.{network-lawful}
use Rattle.psi_law.proofs.QueueingLemmas.{balanced-by, bounded-by, queueing, halves, queueing-kept}
use Rattle.psi_law_many.specs.Lists.{count_lists, AtMost}
use Rattle.psi_law_many.specs.Values.{sum_or, IsMeasured, Score, surplus, deficit, added}
use Rattle.psi_law_many.specs.Means.{spread, distance, far}
use Rattle.psi_law_many.specs.Near.{deviation, deviating}
use Rattle.psi_law_many.specs.Tails.{cases_from, at_least}
use Rattle.psi_law_many.specs.Intervals.{overstates, IsChernoff, IsBinomial, IsRule, misses}
use Rattle.psi_law_many.specs.Bets.{paid, product_by, IsWon, IsBet, loses}
use Rattle.psi_law_many.specs.Reports.{report_of}
use Rattle.psi_law_many.specs.Quantiles.{hits, IsQuantile}
use Rattle.psi_law_many.proofs.ListsLemmas.{lists-ones, lists-power}
use Rattle.psi_law_many.proofs.NearLemmas.{some-words}
use Rattle.psi_law_many.proofs.ManyLemmas.{AreMany, are-many, AreDifferent, are-different}

-- ---- the networks

-- with capacity 1 the states weigh 2 and 1
abbrev thirds : List ℕ → ℕ
thirds x = slice_index (2 ∷ 1 ∷ []) (slice_index x 0)

two-balanced : (limit : ℕ) → IsBalanced (network_chain (queueing 2 limit)) halves
unfolding sum_below do_kind
two-balanced limit = balanced-by (network_chain (queueing 2 limit)) halves refl

one-balanced : (limit : ℕ) → IsBalanced (network_chain (queueing 1 limit)) thirds
unfolding sum_below do_kind
one-balanced limit = balanced-by (network_chain (queueing 1 limit)) thirds refl

-- so all clauses hold of them
many : (capacity limit : ℕ) → 1 ≤ capacity → capacity ≤ 2 → limit ≤ 22 → AreMany (network_chain (queueing capacity limit)) (network_sample (queueing capacity limit)) (2 ^ limit)
many capacity limit some two most =
    (let laws = (network-lawful (queueing capacity limit) (queueing-kept capacity limit some two most)).laws in are-many laws.is_chain laws.reaches)

-- ---- values of their states

abbrev customers : List ℕ → ℕ
customers x = slice_index x 0

-- 1 in the state with two customers, and 0 in the others
abbrev full : List ℕ → ℕ
full x = slice_index (0 ∷ 0 ∷ 1 ∷ []) (slice_index x 0)

customers-measured : (limit : ℕ) → IsMeasured (network_chain (queueing 2 limit)) halves customers 0 2
customers-measured limit = record {
  balanced = two-balanced limit;
  above = λ x member. omega arith;
  below = bounded-by (network_chain (queueing 2 limit)) customers 2 refl;
}

full-measured : (limit : ℕ) → IsMeasured (network_chain (queueing 2 limit)) halves full 0 1
full-measured limit = record {
  balanced = two-balanced limit;
  above = λ x member. omega arith;
  below = bounded-by (network_chain (queueing 2 limit)) full 1 refl;
}

-- the weights are 7 in all, the mean of the customers is 4 of 7 and their variance 182 of 343, and the share of the full state is 1 of 7
weights-worked : (whole (network_chain (queueing 2 1)) halves ≡ 7)
    × ((weighted (network_chain (queueing 2 1)) halves customers ≡ 4)
    × ((spread (network_chain (queueing 2 1)) halves customers ≡ 182)
    × (weighted (network_chain (queueing 2 1)) halves full ≡ 1)))
weights-worked = (refl, (refl, (refl, refl)))

-- ---- two streams of limit 1, with the words below 4: of 16 pasts 4 give the state 0, 1 the state 2, and 11 do not coalesce

-- how many of the 256 lists are at least so far off: of one past in the state 0 and one in 0, 2 * 4 / 7 is 8 / 7 above their sum 0, and so on
far-of : ℕ → ℕ
far-of d = count_lists 4 2 2 (λ pasts. nat_le d (distance (network_sample (queueing 2 1)) 2 (network_chain (queueing 2 1)) halves customers 0 2 2 pasts))

far-counted : map far-of (0 ∷ 1 ∷ 6 ∷ 7 ∷ 8 ∷ 9 ∷ 20 ∷ 21 ∷ []) ≡ 256 ∷ 47 ∷ 47 ∷ 17 ∷ 17 ∷ 1 ∷ 1 ∷ 0 ∷ []
unfolding far-of sum_below do_kind event_of least_power outcome_within first_answer step
far-counted = refl

far-worked : (47 * (7 * (6 * 6)) ≤ 2 * 182 * 256) × ((17 * (7 * (8 * 8)) ≤ 2 * 182 * 256) × (1 * (7 * (20 * 20)) ≤ 2 * 182 * 256))
far-worked = (omega arith, (omega arith, omega arith))

-- 256 - 5 * 5 have a sample that did not coalesce
unmet-of : ℕ → ℕ
unmet-of k = count_lists 4 2 k (λ pasts. list_any (λ past. is_unmet (network_sample (queueing 2 1) past)) pasts)

unmet-counted : map unmet-of (0 ∷ 1 ∷ 2 ∷ []) ≡ 0 ∷ 11 ∷ 231 ∷ []
unfolding unmet-of sum_below do_kind event_of least_power outcome_within first_answer step
unmet-counted = refl

-- how many lists have a total score of so much
totals-of : ℕ → Score → List ℕ → List ℕ
totals-of k s is = map (λ i. count_lists 4 2 k (λ pasts. nat_le i (sum_by s.score pasts))) is

-- the customers above 0: 2 from one past of 16, and 0 from all others; and below 2: 2 from four pasts
surplus-counted : totals-of 2 (surplus (network_sample (queueing 2 1)) (network_chain (queueing 2 1)) halves customers 0 2) (0 ∷ 1 ∷ 2 ∷ 3 ∷ 4 ∷ 5 ∷ []) ≡ 256 ∷ 31 ∷ 31 ∷ 1 ∷ 1 ∷ 0 ∷ []
unfolding totals-of sum_below do_kind event_of least_power outcome_within first_answer step
surplus-counted = refl

deficit-counted : totals-of 2 (deficit (network_sample (queueing 2 1)) (network_chain (queueing 2 1)) halves customers 0 2) (0 ∷ 1 ∷ 2 ∷ 3 ∷ 4 ∷ 5 ∷ []) ≡ 256 ∷ 112 ∷ 112 ∷ 16 ∷ 16 ∷ 0 ∷ []
unfolding totals-of sum_below do_kind event_of least_power outcome_within first_answer step
deficit-counted = refl

-- by the exponential inequality with 3 and 1 for a and b, where the mean of the surplus is 4 of 7 and that of the deficit 10 of 7
exponential-worked : (1 * (3 ^ 4 * 1 ^ 0) * (7 * 2) ^ 2 ≤ (4 * 3 ^ 2 + 10 * 1 ^ 2) ^ 2 * 256) × (16 * (3 ^ 4 * 1 ^ 0) * (7 * 2) ^ 2 ≤ (10 * 3 ^ 2 + 4 * 1 ^ 2) ^ 2 * 256)
exponential-worked = (omega arith, omega arith)

-- full samples, and by the binomial distribution with 1 of 7
full-counted : totals-of 2 (surplus (network_sample (queueing 2 1)) (network_chain (queueing 2 1)) halves full 0 1) (0 ∷ 1 ∷ 2 ∷ 3 ∷ []) ≡ 256 ∷ 31 ∷ 1 ∷ 0 ∷ []
unfolding totals-of sum_below do_kind event_of least_power outcome_within first_answer step
full-counted = refl

cases-counted : map (λ i. cases_from 1 6 2 i) (0 ∷ 1 ∷ 2 ∷ 3 ∷ []) ≡ 49 ∷ 13 ∷ 1 ∷ 0 ∷ []
unfolding cases_from
cases-counted = refl

binomial-worked : (31 * 7 ^ 2 ≤ 13 * 256) × (1 * 7 ^ 2 ≤ 1 * 256)
binomial-worked = (omega arith, omega arith)

-- samples above 0 customers are those of the past that gives 2, and samples below 1 those of the four that give 0
hits-of : (List ℕ → Bool) → List ℕ
hits-of has = map (λ i. count_lists 4 2 2 (λ pasts. nat_le i (hits has (network_sample (queueing 2 1)) pasts))) (0 ∷ 1 ∷ 2 ∷ 3 ∷ [])

hits-counted : (hits-of (λ x. nat_lt 0 (customers x)) ≡ 256 ∷ 31 ∷ 1 ∷ 0 ∷ []) × (hits-of (λ x. nat_lt (customers x) 1) ≡ 256 ∷ 112 ∷ 16 ∷ 0 ∷ [])
unfolding hits-of sum_below do_kind event_of least_power outcome_within first_answer step
hits-counted = (refl, refl)

-- of two arrivals and of two idle words the report counts 2 samples, of which 1 coalesced, with 2 customers; with 2 for the other they are 4
report-worked : ((report_of (queueing 2 1) (network_sample (queueing 2 1)) ((λ k. 0) ∷ (λ k. 3) ∷ [])).samples ≡ 2)
    × (((report_of (queueing 2 1) (network_sample (queueing 2 1)) ((λ k. 0) ∷ (λ k. 3) ∷ [])).met ≡ 1)
    × ((sum_or 0 customers (network_sample (queueing 2 1)) ((λ k. 0) ∷ (λ k. 3) ∷ []) ≡ 2) × (sum_or 2 customers (network_sample (queueing 2 1)) ((λ k. 0) ∷ (λ k. 3) ∷ []) ≡ 4)))
unfolding contents_of met_states do_kind event_of least_power outcome_within first_answer step
report-worked = (refl, (refl, (refl, refl)))

-- ---- two networks under the same past: capacity 2, and capacity 1, of which 10 pasts of 16 give the state 0, 5 the state 1, and 1 does not coalesce

-- the first above the second, from -1 on: 2 from 1 past, and 1 from the 4 pasts where both are empty and from 6 where the second is empty alone; the mean of this is 26 of 21, so that of the difference is 5 of 21, as 4 of 7 less 1 of 3
difference-counted : totals-of 1 (added (surplus (network_sample (queueing 2 1)) (network_chain (queueing 2 1)) halves customers 0 2)
    (deficit (network_sample (queueing 1 1)) (network_chain (queueing 1 1)) thirds customers 0 1)) (0 ∷ 1 ∷ 2 ∷ 3 ∷ []) ≡ 16 ∷ 11 ∷ 1 ∷ 0 ∷ []
unfolding totals-of sum_below do_kind event_of least_power outcome_within first_answer step
difference-counted = refl

difference-worked : ((added (surplus (network_sample (queueing 2 1)) (network_chain (queueing 2 1)) halves customers 0 2)
    (deficit (network_sample (queueing 1 1)) (network_chain (queueing 1 1)) thirds customers 0 1)).part ≡ 26)
    × ((added (surplus (network_sample (queueing 2 1)) (network_chain (queueing 2 1)) halves customers 0 2)
    (deficit (network_sample (queueing 1 1)) (network_chain (queueing 1 1)) thirds customers 0 1)).whole ≡ 21)
difference-worked = (refl, refl)

-- how many of the lists of k pasts are at least so far off: the difference is known of the past that gives 2 and 1 (16 of 21 off) and of the 4 that empty both (5 off); of
-- the others one end or none is known. Of two pasts 1 list has 2 and 1 twice, 8 have it once with 0 and 0, and 16 have 0 and 0 twice; 12 have 2 and 1 once and an empty second network
apart-of : ℕ → ℕ → ℕ
apart-of k d = count_lists 4 2 k (λ pasts. nat_le d (deviation (added (surplus (network_sample (queueing 2 1)) (network_chain (queueing 2 1)) halves customers 0 2)
    (deficit (network_sample (queueing 1 1)) (network_chain (queueing 1 1)) thirds customers 0 1))
    (added (deficit (network_sample (queueing 2 1)) (network_chain (queueing 2 1)) halves customers 0 2)
    (surplus (network_sample (queueing 1 1)) (network_chain (queueing 1 1)) thirds customers 0 1)) k pasts))

apart-counted : (map (apart-of 1) (0 ∷ 1 ∷ 5 ∷ 6 ∷ 16 ∷ 17 ∷ []) ≡ 16 ∷ 5 ∷ 5 ∷ 1 ∷ 1 ∷ 0 ∷ [])
    × (map (apart-of 2) (0 ∷ 1 ∷ 10 ∷ 11 ∷ 12 ∷ 32 ∷ 33 ∷ []) ≡ 256 ∷ 37 ∷ 37 ∷ 21 ∷ 1 ∷ 1 ∷ 0 ∷ [])
unfolding apart-of sum_below do_kind event_of least_power outcome_within first_answer step
apart-counted = (refl, refl)

apart-worked : (1 * (4 * (16 * 16)) ≤ 1 * (21 * 3 * (21 * 3)) * 16) × ((37 * (4 * (10 * 10)) ≤ 2 * (21 * 3 * (21 * 3)) * 256) × (1 * (4 * (32 * 32)) ≤ 2 * (21 * 3 * (21 * 3)) * 256))
apart-worked = (omega arith, (omega arith, omega arith))

-- ---- certificates

-- where 8 of 10 scores of 0 and 1 are 1, their mean is at least 44 of 100, but for 1 list in 40, and 45 has no certificate
eight-binomial : IsBinomial 10 1 100 40 8 44
unfolding cases_from
eight-binomial = record { one = refl; share = omega arith; few = omega arith }

eight-not : IsBinomial 10 1 100 40 8 45 → ⊥
unfolding cases_from
eight-not certificate = (let few = certificate.few in absurd (omega (arith, few)))

-- and at least 38 by Chernoff's inequality
eight-chernoff : IsChernoff 10 1 100 40 8 38
eight-chernoff = record { a = 61; b = 10; some = omega arith; order = omega arith; share = omega arith; few = omega arith }

-- where ten scores from 0 to 2 come to 18, their mean is at least 9 of 10
ten-chernoff : IsChernoff 10 2 10 40 18 9
ten-chernoff = record { a = 2; b = 1; some = omega arith; order = omega arith; share = omega arith; few = omega arith }

-- and at least 11 of 10 by a stake of 7 of 10, where eight are 2 and two are 1
abbrev ten : List ℕ
ten = 2 ∷ 2 ∷ 1 ∷ 2 ∷ 2 ∷ 2 ∷ 2 ∷ 1 ∷ 2 ∷ 2 ∷ []

ten-won : IsWon 10 10 40 11 (7 ∷ []) ten
unfolding product_by
ten-won = record {
  each = λ s member. elim member [
    | inl same ↦ omega arith
    | inr past ↦ absurd past
  ];
  much = omega arith;
}

-- and 12 of 10 is not won by it
ten-lost : IsWon 10 10 40 12 (7 ∷ []) ten → ⊥
unfolding product_by
ten-lost won = (let much = won.much in absurd (omega (arith, much)))

-- a stake pays as much as it is, on the average of a 0 and a 2, where the mean is 1
paid-worked : paid 10 10 10 5 0 + paid 10 10 10 5 2 ≡ 2 * (10 * 10)
paid-worked = refl

-- half of the weight is in states with at most 0 customers, and less than half with more: 0 is the median, and 1 is not
zero-median : IsQuantile (network_chain (queueing 2 1)) halves customers 1 2 0
zero-median = record { some = omega arith; parts = omega arith; share = omega arith; below = omega arith; above = omega arith }

one-not : IsQuantile (network_chain (queueing 2 1)) halves customers 1 2 1 → ⊥
one-not quantile = (let below = quantile.below in absurd (omega (arith, below)))

-- of ten values 9 or more are on one side of a median for at most 11 of 1024 lists, which is less than 1 in 40, and 8 or more for 56
median-counted : map (λ i. cases_from 1 1 10 i) (8 ∷ 9 ∷ 10 ∷ 11 ∷ []) ≡ 56 ∷ 11 ∷ 1 ∷ 0 ∷ []
unfolding cases_from
median-counted = refl

-- ---- what claims, rules and shares of lists say

-- full states have 1 of 7 parts: a claim of 15 of 100 is false, and one of 14 of 100 is not
overstates-worked : (overstates (surplus (network_sample (queueing 2 1)) (network_chain (queueing 2 1)) halves full 0 1) 100 14 ≡ false)
    × (overstates (surplus (network_sample (queueing 2 1)) (network_chain (queueing 2 1)) halves full 0 1) 100 15 ≡ true)
overstates-worked = (refl, refl)

-- a rule that claims 44 of 100 from 8 of 10 full samples, and nothing from any other number
abbrev eight : ℕ → ℕ
eight i = if nat_eq i 8 then 44 else 0

-- it is wrong where 8 pasts of 10 are arrivals, and not where 7 are
abbrev seven_full : List Words → List Words
seven_full pasts = (λ k. 0) ∷ (λ k. 0) ∷ (λ k. 0) ∷ (λ k. 0) ∷ (λ k. 0) ∷ (λ k. 0) ∷ (λ k. 0) ∷ pasts

misses-worked : (misses (surplus (network_sample (queueing 2 1)) (network_chain (queueing 2 1)) halves full 0 1) 100 eight (seven_full ((λ k. 0) ∷ (λ k. 3) ∷ (λ k. 3) ∷ [])) ≡ true)
    × (misses (surplus (network_sample (queueing 2 1)) (network_chain (queueing 2 1)) halves full 0 1) 100 eight (seven_full ((λ k. 3) ∷ (λ k. 3) ∷ (λ k. 3) ∷ [])) ≡ false)
unfolding do_kind event_of least_power outcome_within first_answer step
misses-worked = (refl, refl)

-- a rule that claims 11 of 10 from the ten scores above, and nothing from any others
abbrev ten_claims : List ℕ → ℕ
ten_claims scores = if is_same scores ten then 11 else 0

-- it is wrong where the samples have these values, and not where all ten are full
abbrev to_one : Words
to_one k = slice_index (0 ∷ 1 ∷ 1 ∷ 3 ∷ []) k

loses-worked : (loses (surplus (network_sample (queueing 2 2)) (network_chain (queueing 2 2)) halves customers 0 2) 10 ten_claims
    ((λ k. 0) ∷ (λ k. 0) ∷ to_one ∷ (λ k. 0) ∷ (λ k. 0) ∷ (λ k. 0) ∷ (λ k. 0) ∷ to_one ∷ (λ k. 0) ∷ (λ k. 0) ∷ []) ≡ true)
    × (loses (surplus (network_sample (queueing 2 2)) (network_chain (queueing 2 2)) halves customers 0 2) 10 ten_claims (seven_full ((λ k. 0) ∷ (λ k. 0) ∷ (λ k. 0) ∷ [])) ≡ false)
unfolding do_kind event_of least_power outcome_within first_answer step
loses-worked = (refl, refl)

-- all lists are not half of them
all-not : AtMost 1 2 1 1 (λ pasts. true) → ⊥
all-not few =
    let ones = lists-ones word_count 1 1 in
    let power = lists-power word_count 1 1 in
    let some = one-le-pow (1 * 1) word_count some-words in
    absurd (omega (arith, few, ones, power, some))

-- ---- instances, with all words

-- of all lists of 1000 pasts, the customers of the samples are 100 or more away from 4000 of 7 for at most 1 in 10
thousand-of : (b w : ℕ) → b * (4 * (100 * 100)) ≤ 1000 * (2 * 2) * w → b * 10 ≤ w
thousand-of b w near = omega arith

two-thousand : far (network_sample (queueing 2 18)) (2 ^ 18) (network_chain (queueing 2 18)) halves customers 0 2 1000 700 * 10 ≤ word_count ^ (2 ^ 18 * 1000)
two-thousand =
    thousand-of (far (network_sample (queueing 2 18)) (2 ^ 18) (network_chain (queueing 2 18)) halves customers 0 2 1000 700) (word_count ^ (2 ^ 18 * 1000))
    (((many 2 18 (omega arith) (omega arith) (omega arith)).near halves customers 0 2 (customers-measured 18)).plain 1000 100 (omega arith))

-- the claims of the rule from 8 of 10 full samples are false for at most 1 list in 40, and an interval with both ends for at most 2
eight-rule : IsRule 10 1 100 40 eight
eight-rule = record {
  each = λ i small. elim (cases_eq i 8) [
    | inl same ↦ inr (inr (subst (λ m. IsBinomial 10 1 100 40 m (eight m)) (sym same) eight-binomial))
    | inr other ↦ inl (rw (ne_eqb i 8 other) refl)
  ];
}

eight-covered : AtMost 1 40 (2 ^ 18) 10 (misses (surplus (network_sample (queueing 2 18)) (network_chain (queueing 2 18)) halves full 0 1) 100 eight)
eight-covered = ((many 2 18 (omega arith) (omega arith) (omega arith)).intervals halves full 0 1 (full-measured 18)).lower 10 100 40 eight eight-rule

eight-both : AtMost 2 40 (2 ^ 18) 10 (λ pasts. misses (surplus (network_sample (queueing 2 18)) (network_chain (queueing 2 18)) halves full 0 1) 100 eight pasts
    || misses (deficit (network_sample (queueing 2 18)) (network_chain (queueing 2 18)) halves full 0 1) 100 eight pasts)
eight-both = ((many 2 18 (omega arith) (omega arith) (omega arith)).intervals halves full 0 1 (full-measured 18)).both 10 100 40 eight eight eight-rule eight-rule

-- 1 is a quantile of 3 of 5, and for at most 1 list of ten pasts in 40 are all samples below 1 customer
fifths-covered : AtMost 1 40 (2 ^ 18) 10 (λ pasts. nat_le 10 (hits (λ x. nat_lt (customers x) 1) (network_sample (queueing 2 18)) pasts))
unfolding cases_from
fifths-covered =
    ((many 2 18 (omega arith) (omega arith) (omega arith)).quantiles halves customers (two-balanced 18)).upper 10 3 5 40 10 1
    (record { some = omega arith; parts = omega arith; share = omega arith; below = omega arith; above = omega arith }) (omega arith)

-- for at most 1 list of ten pasts in 40 are 9 or more samples above 0 customers
median-covered : AtMost 1 40 (2 ^ 18) 10 (λ pasts. nat_le 9 (hits (λ x. nat_lt 0 (customers x)) (network_sample (queueing 2 18)) pasts))
unfolding cases_from
median-covered =
    ((many 2 18 (omega arith) (omega arith) (omega arith)).quantiles halves customers (two-balanced 18)).lower 10 1 2 40 9 0
    (record { some = omega arith; parts = omega arith; share = omega arith; below = omega arith; above = omega arith }) (omega arith)

-- and so it is of the rule from ten scores
ten-bet : IsBet 10 10 10 40 (7 ∷ []) ten_claims
ten-bet = record {
  some = omega arith;
  parts = omega arith;
  each = λ scores so. elim (cases_Bool (is_same scores ten)) [
    | inl same ↦ inr (subst (λ (vs : List ℕ). IsWon 10 10 40 (ten_claims vs) (7 ∷ []) vs) (sym (same-from_eq scores ten same)) ten-won)
    | inr other ↦ inl (rw other refl)
  ];
}

ten-covered : AtMost 1 40 (2 ^ 18) 10 (loses (surplus (network_sample (queueing 2 18)) (network_chain (queueing 2 18)) halves customers 0 2) 10 ten_claims)
ten-covered = ((many 2 18 (omega arith) (omega arith) (omega arith)).bets halves customers 0 2 (customers-measured 18)).lower 10 10 10 40 (7 ∷ []) ten_claims ten-bet

-- the two networks, with limits of their own, under the same pasts
one-measured : IsMeasured (network_chain (queueing 1 17)) thirds customers 0 1
one-measured = record { balanced = one-balanced 17; above = λ x member. omega arith; below = bounded-by (network_chain (queueing 1 17)) customers 1 refl }

compared : AreDifferent (network_chain (queueing 2 18)) (network_sample (queueing 2 18)) (2 ^ 18) (network_chain (queueing 1 17)) (network_sample (queueing 1 17)) (2 ^ 17)
compared =
    let first = (network-lawful (queueing 2 18) (queueing-kept 2 18 (omega arith) (omega arith) (omega arith))).laws in
    let last = (network-lawful (queueing 1 17) (queueing-kept 1 17 (omega arith) (omega arith) (omega arith))).laws in
    are-different first.is_chain first.reaches last.is_chain last.reaches

-- ten streams in all of which the first network is full and the second is empty are at most 1 list in 1,356
differences-of : (b w : ℕ) → b * (2 ^ 30 * 1 ^ 0) * (21 * 3) ^ 10 ≤ (26 * 2 ^ 3 + (21 * 3 - 26) * 1 ^ 3) ^ 10 * w → b * 1356 ≤ w
differences-of b w tail = omega arith

lead : Score
lead = added (surplus (network_sample (queueing 2 18)) (network_chain (queueing 2 18)) halves customers 0 2)
    (deficit (network_sample (queueing 1 17)) (network_chain (queueing 1 17)) thirds customers 0 1)

ten-differences : at_least (2 ^ 18) 10 lead 30 * 1356 ≤ word_count ^ (2 ^ 18 * 10)
unfolding lead
ten-differences =
    differences-of (at_least (2 ^ 18) 10 lead 30) (word_count ^ (2 ^ 18 * 10))
    ((compared.tails (2 ^ 18) (omega arith) (omega arith) halves customers 0 2 thirds customers 0 1 (customers-measured 18) one-measured).0.exponential 10 2 1 30 0 (omega arith) (omega arith))

-- of all lists of 1000 pasts, the differences are 200 or more away from 1000 times 5 of 21 for at most 1 in 17
thousand-apart : (b w : ℕ) → b * (4 * (200 * 200)) ≤ 1000 * (3 * 3) * w → b * 17 ≤ w
thousand-apart b w near = omega arith

trail : Score
trail = added (deficit (network_sample (queueing 2 18)) (network_chain (queueing 2 18)) halves customers 0 2)
    (surplus (network_sample (queueing 1 17)) (network_chain (queueing 1 17)) thirds customers 0 1)

thousand-differences : deviating lead trail 1000 (2 ^ 18) (21 * 200) * 17 ≤ word_count ^ (2 ^ 18 * 1000)
unfolding lead trail
thousand-differences =
    thousand-apart (deviating lead trail 1000 (2 ^ 18) (21 * 200)) (word_count ^ (2 ^ 18 * 1000))
    ((compared.near (2 ^ 18) (omega arith) (omega arith) halves customers 0 2 thirds customers 0 1 (customers-measured 18) one-measured).plain 1000 200 (omega arith))
