-- The definitions on small inputs, worked out by hand and computed by the checker. The modulus of each network is 4, so pasts are
-- counted of the words below 4.
use Rattle.std.proofs.Common.{◌≡◌, ℕ, ◌+◌, ◌<◌, ◌≤◌, ◌^◌, ◌*◌, pos, negsuc, List, [], ◌∷◌, map, slice_index, nat_eq, is_none, inl, inr, ap, sym, ◌∙◌, refl, arith}
use Rattle.std.specs.Prelude.{codes}
use Rattle.std.specs.List.{sum_by}
use Rattle.std.proofs.Math.Nat.{le_of_mul-le-mul_left}
use Rattle.std.proofs.lemmas.Bool.{cases_lt}
use Rattle.psi_state.specs.declared.Outcome.{Outcome}
use Rattle.psi_state.specs.declared.Outcome.TheVariants.{Met}
use Rattle.psi_reward.specs.declared.kinds.RewardKind.{RewardKind}
use Rattle.psi_reward.specs.declared.kinds.RewardKind.TheVariants.{Linear, Above}
use Rattle.psi_reward.specs.Worth.{worth_of}
use Rattle.psi_state.specs.Members.{In}
use Rattle.psi_route.specs.declared.Full.{Full}
use Rattle.psi_route.specs.declared.Full.TheVariants.{Lost, Stay}
use Rattle.psi_kinds.specs.declared.kinds.Kind.{Kind}
use Rattle.psi_kinds.specs.declared.kinds.Kind.TheVariants.{Arrival, Service}
use Rattle.psi_kinds.specs.declared.moves.Move.{Move}
use Rattle.psi_kinds.specs.Kinds.{do_kind}
use Rattle.psi_kinds.specs.Moves.{moved}
use Rattle.psi_rate.specs.Rates.{AreRates, least_power, event_of}
use Rattle.psi_rate.specs.Doubling.{first_answer}
use Rattle.psi_rate.specs.Least.{least_answer}
use Rattle.psi_couple.specs.declared.answers.Coupled.TheVariants.{At}
use Rattle.psi_couple.specs.Coupling.{coupled_within}
use Rattle.psi_couple.specs.Valuing.{valued_within}
use Rattle.psi_rate.specs.Outcomes.{outcome_within}
use Rattle.psi_region.specs.Region.{step}
use Rattle.psi_closed.specs.Closed.{total_states, all_arcs, held_states, closed_run}
use Rattle.psi_net_model.specs.Network.{Network}
use Rattle.psi_net_model.specs.Valid.{IsNetwork}
use Rattle.psi_net_model.specs.declared.entries.Queue.{Queue}
use Rattle.psi_law.specs.Elimination.{Matrix, censored, rate_between, stationary_weight}
use Rattle.psi_law.specs.Counting.{Words, distance, signed, sum_below, count_below, sum_pasts, count_pasts}
use Rattle.psi_law.specs.Wheel.{word_count, words_for}
use Rattle.psi_law.specs.Chains.{Chain, function_of, is_same, end_of, pasts_between, whole, weighted, IsBalanced, IsStationaryDistribution}
use Rattle.psi_law.specs.Samples.{HasLaw, HasMean, is_met_in, is_unmet, value_met, met_in, unmet, sum_met, are_apart, apart}
use Rattle.psi_law.specs.Networks.{network_chain, network_ending, network_sample, closed_chain, closed_sample, network_total_chain, network_total_ending, network_total_sample}
use Rattle.psi_law.specs.Couplings.{network_coupling, coupled_outcome}
use Rattle.psi_law.specs.Values.{network_value, is_value, is_unvalued, weight_valued}
use Rattle.psi_law.proofs.SumsLemmas.{one_if}
use Rattle.psi_law.proofs.WheelLemmas.{IsShare, share, sum-words, wheel-exact}
use Rattle.psi_law.proofs.LawfulLemmas.{IsLawful}
use Rattle.psi_law.proofs.NetworkLemmas.{network-lawful}
use Rattle.psi_law.proofs.QueueingLemmas.{balanced-by, bounded-by, event, queueing, halves, queueing-kept}

-- ---- weights that balance

abbrev queue : ℕ → Queue
queue room = record { name = codes "a"; capacity = room; servers = 1 }

-- a customer is served at a queue with these queues to go to
abbrev served : ℕ → List ℕ → Full → Kind
served q to full = Service (record { queue = q; k = 1 }) to full

-- `first.toml` with this limit; its states weigh 4, 2 and 1
abbrev first : ℕ → Network
first limit = queueing 2 limit

first-balanced : (limit : ℕ) → IsBalanced (network_chain (first limit)) halves
unfolding sum_below do_kind
first-balanced limit = balanced-by (network_chain (first limit)) halves refl

-- it is a network, whatever the limit is, so its samples have the law of these weights
first-kept : (limit : ℕ) → limit ≤ 22 → IsNetwork (first limit)
first-kept limit most = queueing-kept 2 limit (omega arith) (omega arith) most

first-lawful : (limit : ℕ) → limit ≤ 22 → IsLawful (network_chain (first limit)) (network_sample (first limit)) (2 ^ limit)
first-lawful limit most = (network-lawful (first limit) (first-kept limit most)).laws

first-law : (limit : ℕ) → limit ≤ 22 → HasLaw (network_sample (first limit)) (2 ^ limit) (network_chain (first limit)) halves
first-law limit most = (first-lawful limit most).law halves (first-balanced limit)

-- elimination finds these weights: of the states 0, 1 and 2, state 0 first
first-eliminated : map (stationary_weight (network_chain (first 18))) (network_chain (first 18)).states ≡ 4 ∷ 2 ∷ 1 ∷ []
unfolding sum_below do_kind
first-eliminated = refl

-- the rates between them, and those of the chain while it is not in state 0
abbrev rate_rows : Matrix → List (List ℕ) → List (List ℕ)
rate_rows q xs = map (λ x. map (λ y. q x y) xs) xs

first-rated : rate_rows (rate_between (network_chain (first 18))) (network_chain (first 18)).states ≡ (2 ∷ 1 ∷ 0 ∷ []) ∷ (2 ∷ 0 ∷ 1 ∷ []) ∷ (0 ∷ 2 ∷ 1 ∷ []) ∷ []
unfolding sum_below do_kind
first-rated = refl

first-censored : rate_rows (censored (0 ∷ []) ((1 ∷ []) ∷ (2 ∷ []) ∷ []) (rate_between (network_chain (first 18)))) ((1 ∷ []) ∷ (2 ∷ []) ∷ []) ≡ (2 ∷ 1 ∷ []) ∷ (2 ∷ 1 ∷ []) ∷ []
unfolding sum_below do_kind
first-censored = refl

-- weights of a stationary distribution are 4, 2 and 1 times a number that is not 0
first-ratios : (limit : ℕ) (weight : List ℕ → ℕ) → IsStationaryDistribution (network_chain (first limit)) weight
    → (0 < weight (2 ∷ [])) × ((weight (1 ∷ []) ≡ 2 * weight (2 ∷ [])) × (weight (0 ∷ []) ≡ 4 * weight (2 ∷ [])))
unfolding sum_below do_kind
first-ratios limit weight is =
    let none : 0 + 1 * 0 + 2 * (0 + weight (0 ∷ []) + weight (1 ∷ [])) ≡ 3 * weight (0 ∷ []) = is.balanced.each (0 ∷ []) (inl refl) in
    let full : 0 + 1 * (0 + weight (1 ∷ []) + weight (2 ∷ [])) + 2 * 0 ≡ 3 * weight (2 ∷ []) = is.balanced.each (2 ∷ []) (inr (inr (inl refl))) in
    let some : 0 < 0 + weight (0 ∷ []) + weight (1 ∷ []) + weight (2 ∷ []) = is.some in
    (omega arith, (omega arith, omega arith))

-- so are those whose law the samples have
first-stationary : (limit : ℕ) → limit ≤ 22 → (weight : List ℕ → ℕ)
    × ((0 < weight (2 ∷ [])) × ((weight (0 ∷ []) ≡ 4 * weight (2 ∷ [])) × HasLaw (network_sample (first limit)) (2 ^ limit) (network_chain (first limit)) weight))
first-stationary limit most =
    let found = (first-lawful limit most).stationary in
    let ratios = first-ratios limit found.weight found.distribution in
    (found.weight, (ratios.0, (ratios.1.1, found.law)))

-- weights that are all 0 balance, and are no distribution
zero-balanced : (limit : ℕ) → IsBalanced (network_chain (first limit)) (λ x. 0)
unfolding sum_below do_kind
zero-balanced limit = balanced-by (network_chain (first limit)) (λ x. 0) refl

zero-none : (limit : ℕ) → IsStationaryDistribution (network_chain (first limit)) (λ x. 0) → ⊥
zero-none limit is = (let some : 0 < 0 = is.some in absurd (omega (arith, some)))

-- a chain has none without a state, with one that stands twice, and where a function leaves its states
empty-none : (weight : List ℕ → ℕ) → IsStationaryDistribution (record { functions = []; rates = []; states = [] }) weight → ⊥
empty-none weight is = (let some : 0 < 0 = is.some in absurd (omega (arith, some)))

twice-none : (weight : List ℕ → ℕ) → IsStationaryDistribution (record { functions = (λ x. x) ∷ []; rates = 1 ∷ []; states = (0 ∷ []) ∷ (0 ∷ []) ∷ [] }) weight → ⊥
unfolding sum_below
twice-none weight is =
    let w = weight (0 ∷ []) in
    let led : 0 + 1 * (0 + w + w) ≡ 1 * w = is.balanced.each (0 ∷ []) (inl refl) in
    let some : 0 < 0 + w + w = is.some in absurd (omega (arith, led, some))

left-none : (weight : List ℕ → ℕ) → IsStationaryDistribution (record { functions = (λ x. 1 ∷ []) ∷ []; rates = 1 ∷ []; states = (0 ∷ []) ∷ [] }) weight → ⊥
unfolding sum_below
left-none weight is =
    let w = weight (0 ∷ []) in
    let led : 0 + 1 * 0 ≡ 1 * w = is.balanced.each (0 ∷ []) (inl refl) in
    let some : 0 < 0 + w = is.some in absurd (omega (arith, led, some))

-- and their means of the customers, who are 2 at most
first-room : (x : List ℕ) → In x (network_chain (first 18)).states → slice_index x 0 ≤ 2
first-room = bounded-by (network_chain (first 18)) (λ x. slice_index x 0) 2 refl

first-mean : (limit : ℕ) → limit ≤ 22 → HasMean (network_sample (first limit)) (2 ^ limit) (network_chain (first limit)) halves (λ x. slice_index x 0) 0 2
first-mean limit most = (first-lawful limit most).mean halves (λ x. slice_index x 0) 0 2 (first-balanced limit) (λ x member. omega arith) first-room

-- of other weights that balance the state 0 has 4 parts of 7 too, where some past couples
first-only : (other : List ℕ → ℕ) (n : ℕ) → IsBalanced (network_chain (first 18)) other → apart (network_chain (first 18)) n < word_count ^ n
    → 4 * whole (network_chain (first 18)) other ≡ other (0 ∷ []) * 7
first-only other n balanced some = (first-lawful 18 (omega arith)).one halves other n (first-balanced 18) balanced some (0 ∷ []) (inl refl)

-- with the limit 1 two words are all that a sample looks at
first-looks : (past other : Words) → past 0 ≡ other 0 → past 1 ≡ other 1 → network_sample (first 1) past ≡ network_sample (first 1) other
first-looks past other newest older =
    let same : (k : ℕ) → k < 2 → past k ≡ other k = λ k small. elim (cases_lt k 1) [
      | inl first ↦ (let e : k ≡ 0 = omega arith in ap past e ∙ (newest ∙ sym (ap other e)))
      | inr last ↦ (let e : k ≡ 1 = omega arith in ap past e ∙ (older ∙ sym (ap other e)))
    ] in
    (first-lawful 1 (omega arith)).words past other same

-- and not 4, 2 and 2
abbrev wrong : List ℕ → ℕ
wrong x = slice_index (4 ∷ 2 ∷ 2 ∷ []) (slice_index x 0)

first-wrong : IsBalanced (network_chain (first 18)) wrong → ⊥
unfolding sum_below do_kind
first-wrong balanced = (let at : 8 ≡ 6 = balanced.each (1 ∷ []) (inr (inl refl)) in absurd (omega (arith, at)))

-- two queues with room for two and one, which customers join at the rate 1 each, leave at the rates 2 and 4, and change at the rates 1 and 2 where the other has room:
-- the weights are products of 4, 2, 1 and of 4, 1
abbrev two : Network
two = record {
  queues = queue 2 ∷ queue 1 ∷ [];
  events = event 1 (Arrival (0 ∷ [])) ∷ event 2 (served 0 [] Lost) ∷ event 1 (Arrival (1 ∷ [])) ∷ event 4 (served 1 [] Lost)
      ∷ event 1 (served 0 (1 ∷ []) Stay) ∷ event 2 (served 1 (0 ∷ []) Stay) ∷ [];
  limit = 18;
  split = 256;
  rewards = [];
}

abbrev products : List ℕ → ℕ
products x = slice_index (4 ∷ 2 ∷ 1 ∷ []) (slice_index x 0) * slice_index (4 ∷ 1 ∷ []) (slice_index x 1)

two-balanced : IsBalanced (network_chain two) products
unfolding sum_below do_kind
two-balanced = balanced-by (network_chain two) products refl

-- two customers who go round two queues, from the first at the rate 1 and from the second at the rate 3: the states weigh 1, 3 and 9, by those in the first (Gordon and Newell 1967)
abbrev round : List Move
round = record { from = 0; k = 1; to = 1 } ∷ record { from = 1; k = 1; to = 0 } ∷ []

abbrev threes : List ℕ → ℕ
threes x = slice_index (1 ∷ 3 ∷ 9 ∷ []) (slice_index x 0)

round-balanced : IsBalanced (closed_chain (2 ∷ 2 ∷ []) 2 round (1 ∷ 3 ∷ [])) threes
unfolding sum_below moved total_states
round-balanced = balanced-by (closed_chain (2 ∷ 2 ∷ []) 2 round (1 ∷ 3 ∷ [])) threes refl

-- the same by a network
abbrev rounds : Network
rounds = record { queues = queue 2 ∷ queue 2 ∷ []; events = event 1 (served 0 (1 ∷ []) Stay) ∷ event 3 (served 1 (0 ∷ []) Stay) ∷ []; limit = 1; split = 256; rewards = [] }

rounds-balanced : IsBalanced (network_total_chain rounds 2) threes
unfolding sum_below do_kind total_states
rounds-balanced = balanced-by (network_total_chain rounds 2) threes refl

-- ---- what the laws say where nothing is left open

-- where each sample is met, each state's part of them is that of the weights
law-exact : (chain : Chain) (sample : Words → Outcome) (n : ℕ) (weight : List ℕ → ℕ) → HasLaw sample n chain weight → unmet sample n ≡ 0
    → (s : List ℕ) → In s chain.states → whole chain weight * met_in sample n s ≡ weight s * word_count ^ n
law-exact chain sample n weight law none s member =
    omega (arith, law.least s member, rw none at (law.most s member))

-- where one state has all weight, each sample that is met is met in it
law-one : (chain : Chain) (sample : Words → Outcome) (n : ℕ) (weight : List ℕ → ℕ) → HasLaw sample n chain weight
    → (s : List ℕ) → In s chain.states → whole chain weight ≡ weight s → 1 ≤ weight s → word_count ^ n ≤ met_in sample n s + unmet sample n
law-one chain sample n weight law s member all some = le_of_mul-le-mul_left (rw all at (law.most s member)) some

-- where each value is the same, the mean is that value
mean-exact : (chain : Chain) (sample : Words → Outcome) (n : ℕ) (weight value : List ℕ → ℕ) (c : ℕ) → HasMean sample n chain weight value c c
    → whole chain weight * (sum_met sample n value + c * unmet sample n) ≡ weighted chain weight value * word_count ^ n
mean-exact chain sample n weight value c mean = (let least = mean.least in let most = mean.most in omega arith)

-- ---- words and pasts

-- of the words below 4 one brings a customer, two serve one, and one is idle
words-counted : map (λ e. count_below 4 (λ word. nat_eq (event_of (1 ∷ 2 ∷ []) word) e)) (0 ∷ 1 ∷ 2 ∷ []) ≡ 1 ∷ 2 ∷ 1 ∷ []
unfolding sum_below event_of least_power
words-counted = refl

-- so of all words 2^30 bring a customer, 2^31 serve one, and 2^30 are idle
first-rates : AreRates (1 ∷ 2 ∷ [])
first-rates = (first-kept 18 (omega arith)).rates

words-dealt : (words_for (1 ∷ 2 ∷ []) 0 ≡ 2 ^ 30) × ((words_for (1 ∷ 2 ∷ []) 1 ≡ 2 ^ 31) × (words_for (1 ∷ 2 ∷ []) 2 ≡ 2 ^ 30))
unfolding word_count least_power
words-dealt =
    let exact = wheel-exact (1 ∷ 2 ∷ []) first-rates in
    let joins : words_for (1 ∷ 2 ∷ []) 0 * 4 ≡ 1 * 2 ^ 32 = exact.each 0 (omega arith) in
    let leaves : words_for (1 ∷ 2 ∷ []) 1 * 4 ≡ 2 * 2 ^ 32 = exact.each 1 (omega arith) in
    let idles : words_for (1 ∷ 2 ∷ []) 2 * 4 ≡ 1 * 2 ^ 32 = exact.idle in
    (omega arith, (omega arith, omega arith))

-- and as many pasts of one word lead from no customer to one, and from one to none
between-shares : (q : ℕ) → IsShare (1 ∷ 2 ∷ []) q
    → (pasts_between (network_chain (first 18)) 1 (0 ∷ []) (1 ∷ []) ≡ q * 1) × (pasts_between (network_chain (first 18)) 1 (1 ∷ []) (0 ∷ []) ≡ q * 2)
unfolding sum_below do_kind least_power
between-shares q is =
    let to : List ℕ → List ℕ → ℕ → ℕ = λ x y e. one_if (is_same (function_of (network_chain (first 18)) e x) y) in
    (sum-words (1 ∷ 2 ∷ []) q (to (0 ∷ []) (1 ∷ [])) is, sum-words (1 ∷ 2 ∷ []) q (to (1 ∷ []) (0 ∷ [])) is)

between-first : (pasts_between (network_chain (first 18)) 1 (0 ∷ []) (1 ∷ []) ≡ 2 ^ 30) × (pasts_between (network_chain (first 18)) 1 (1 ∷ []) (0 ∷ []) ≡ 2 ^ 31)
unfolding word_count least_power
between-first =
    let q = share (1 ∷ 2 ∷ []) first-rates in
    let parts = between-shares q.0 q.1 in
    let joins = parts.0 in
    let leaves = parts.1 in
    let all : 2 ^ 32 ≡ q.0 * 4 = q.1.whole in
    (omega arith, omega arith)

-- the pasts of one word that lead from each state to each
abbrev between : List ℕ → List ℕ
between x = map (λ y. count_pasts 4 1 (λ past. is_same (end_of (network_chain (first 18)) past 1 x) y)) (network_chain (first 18)).states

between-counted : map between (network_chain (first 18)).states ≡ (3 ∷ 1 ∷ 0 ∷ []) ∷ (2 ∷ 1 ∷ 1 ∷ []) ∷ (0 ∷ 2 ∷ 2 ∷ []) ∷ []
unfolding sum_below do_kind event_of least_power
between-counted = refl

-- the pasts of one, two and four words after which not all states have met
apart-counted : map (λ n. count_pasts 4 n (are_apart (network_chain (first 18)) n)) (1 ∷ 2 ∷ 4 ∷ []) ≡ 4 ∷ 11 ∷ 69 ∷ []
unfolding sum_below do_kind event_of least_power
apart-counted = refl

-- and those whose region run hasn't coalesced: 11 is at most 4 * 4, and 69 at most 11 * 11
uncoalesced-counted : map (λ n. count_pasts 4 n (λ past. is_none (network_ending (first 18) past n))) (1 ∷ 2 ∷ 4 ∷ []) ≡ 4 ∷ 11 ∷ 69 ∷ []
unfolding sum_below do_kind event_of least_power step
uncoalesced-counted = refl

-- of the closed network those in which the two events alternate: 1 * 3 + 3 * 1 of two words, and 1 * 3 * 1 + 3 * 1 * 3 of three
rounds-uncoalesced : map (λ n. count_pasts 4 n (λ past. is_none (network_total_ending rounds 2 past n))) (1 ∷ 2 ∷ 3 ∷ []) ≡ 4 ∷ 6 ∷ 12 ∷ []
unfolding sum_below do_kind total_states all_arcs held_states closed_run event_of least_power
rounds-uncoalesced = refl

-- after one and two words the distances from 4, 2 and 1 parts of 7, summed over all states, of each start: at most 2 * 7 * 4 = 56 and 2 * 7 * 11 = 154
abbrev distances : ℕ → List ℕ
distances n = map (λ x. sum_by (λ y. distance (7 * count_pasts 4 n (λ past. is_same (end_of (network_chain (first 18)) past n x) y)) (halves y * 4 ^ n))
    (network_chain (first 18)).states) (network_chain (first 18)).states

mixing-counted : map distances (1 ∷ 2 ∷ []) ≡ (10 ∷ 6 ∷ 32 ∷ []) ∷ (26 ∷ 16 ∷ 72 ∷ []) ∷ []
unfolding sum_below do_kind event_of least_power
mixing-counted = refl

-- after no word, the start at state 2 is at a distance of 6 and 6 parts of 7, and all states are apart: the bound of 2 * 7 can't be halved
mixing-first : (sum_by (λ y. distance (7 * count_pasts 4 0 (λ past. is_same (end_of (network_chain (first 18)) past 0 (2 ∷ [])) y)) (halves y)) (network_chain (first 18)).states ≡ 12)
    × (count_pasts 4 0 (are_apart (network_chain (first 18)) 0) ≡ 1)
unfolding sum_below do_kind event_of least_power
mixing-first = (refl, refl)

-- ---- samples

-- how many pasts of n words give a sample that is met in each state of the list, and how many give none
abbrev tally : (Words → Outcome) → ℕ → List (List ℕ) → List ℕ
tally sample n states = count_pasts 4 n (λ past. is_unmet (sample past)) ∷ map (λ s. count_pasts 4 n (λ past. is_met_in s (sample past))) states

two-words : tally (network_sample (first 1)) 2 (network_chain (first 1)).states ≡ 11 ∷ 4 ∷ 0 ∷ 1 ∷ []
unfolding sum_below do_kind event_of least_power outcome_within first_answer step
two-words = refl

four-words : tally (network_sample (first 2)) 4 (network_chain (first 2)).states ≡ 69 ∷ 116 ∷ 42 ∷ 29 ∷ []
unfolding sum_below do_kind event_of least_power outcome_within first_answer step
four-words = refl

-- the customers of these samples, 42 of one and 29 of two, beside a mean of 4 parts of 7
four-sum : sum_pasts 4 4 (λ past. value_met (λ x. slice_index x 0) (network_sample (first 2) past)) ≡ 100
unfolding sum_below do_kind event_of least_power outcome_within first_answer step
four-sum = refl

mean-weighed : (weighted (network_chain (first 2)) halves (λ x. slice_index x 0) ≡ 4) × (whole (network_chain (first 2)) halves ≡ 7)
mean-weighed = (refl, refl)

-- and of the closed network
closed-words : tally (closed_sample (2 ∷ 2 ∷ []) 2 round (1 ∷ 3 ∷ []) 1) 2 (closed_chain (2 ∷ 2 ∷ []) 2 round (1 ∷ 3 ∷ [])).states ≡ 6 ∷ 1 ∷ 0 ∷ 9 ∷ []
unfolding sum_below moved total_states all_arcs held_states closed_run event_of least_power outcome_within first_answer
closed-words = refl

rounds-words : tally (network_total_sample rounds 2) 2 (network_total_chain rounds 2).states ≡ 6 ∷ 1 ∷ 0 ∷ 9 ∷ []
unfolding sum_below do_kind total_states all_arcs held_states closed_run event_of least_power outcome_within first_answer
rounds-words = refl

-- ---- which word is the newest

-- the past with the words of a list, the newest first
abbrev newest_first : List ℕ → Words
newest_first words place = slice_index words place

-- after an idle word two services empty the queue, and the newest word brings a customer; with the words in the other order, an arrival comes first, and the queue is empty in the end
order-matters : (network_sample (first 2) (newest_first (0 ∷ 1 ∷ 1 ∷ 3 ∷ [])) ≡ Met 4 (1 ∷ [])) × (network_sample (first 2) (newest_first (3 ∷ 1 ∷ 1 ∷ 0 ∷ [])) ≡ Met 4 (0 ∷ []))
unfolding do_kind event_of least_power outcome_within first_answer step
order-matters = (refl, refl)

-- ---- couplings

-- two services and an idle word couple at 3, a horizon that a sample doesn't try
coupled-three : network_coupling (first 2) (newest_first (3 ∷ 1 ∷ 1 ∷ 0 ∷ [])) ≡ At 3 (0 ∷ [])
unfolding do_kind event_of least_power coupled_within least_answer step
coupled-three = refl

-- the couplings of two words: as many of each state as samples
two-coupled : tally (λ past. coupled_outcome (network_coupling (first 1) past)) 2 (network_chain (first 1)).states ≡ 11 ∷ 4 ∷ 0 ∷ 1 ∷ []
unfolding sum_below do_kind event_of least_power coupled_within least_answer step
two-coupled = refl

-- ---- values

-- whether the queue is busy, under two words: an arrival as the newest word tells that it is (4 pasts), and so does one before an idle word (1); two services tell that it is not
-- (4); in the other 7 pasts it may be either
abbrev busy : RewardKind
busy = Above (0 ∷ []) 0

values-counted : count_pasts 4 2 (λ past. is_unvalued (network_value (first 1) busy past))
    ∷ map (λ v. count_pasts 4 2 (λ past. is_value v (network_value (first 1) busy past))) (pos 0 ∷ pos 1 ∷ []) ≡ 7 ∷ 4 ∷ 5 ∷ []
unfolding sum_below do_kind event_of least_power valued_within first_answer step
values-counted = refl

-- of the weight of 7, the busy states have 3: 7 * 5 is at most 3 * 16, and this at most 7 * (5 + 7)
busy-weighed : map (λ v. weight_valued (network_chain (first 1)) halves (worth_of busy) v) (pos 0 ∷ pos 1 ∷ []) ≡ 4 ∷ 3 ∷ []
busy-weighed = refl

-- each customer costs 1: the samples of four words are worth -100, and all states by their weights -4; with u = 69 of 256 pasts, 7 * (-100 - 2 * 69) is at most -4 * 256,
-- and this at most 7 * -100
abbrev cost : RewardKind
cost = Linear (0 ∷ []) (negsuc 0 ∷ [])

cost-counted : signed (λ g. sum_pasts 4 4 (λ past. value_met g (network_sample (first 2) past))) (worth_of cost) ≡ negsuc 99
unfolding sum_below do_kind event_of least_power outcome_within first_answer step
cost-counted = refl

cost-weighed : signed (weighted (network_chain (first 2)) halves) (worth_of cost) ≡ negsuc 3
cost-weighed = refl
