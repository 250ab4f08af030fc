-- The report of the samples of several pasts has the sums of their values.
use Rattle.std.specs.Prelude.{◌≡◌, ℕ, zero, suc, ◌+◌, ◌-◌, ◌*◌, ◌<◌, ℤ, pos, ◌+ℤ◌, List, [], ◌∷◌, map, length, slice_index, slice_index_or, refl}
use Rattle.std.specs.List.{flat_map}
use Rattle.std.proofs.Common.{inl, inr, ap, sym, ◌∙◌, subst, arith}
use Rattle.std.proofs.lemmas.Int.{ints}
use Rattle.std.proofs.lemmas.List.{length-map}
use Rattle.std.proofs.lemmas.List.Sums.{sum_by-cons}
use Rattle.psi_state.specs.declared.Outcome.{Outcome}
use Rattle.psi_state.specs.declared.Outcome.TheVariants.{Met, NotMet}
use Rattle.psi_state.specs.Members.{In}
use Rattle.psi_state.proofs.MembersLemmas.{In-append_left, In-append_right, In-map, In-flat_map}
use Rattle.psi_reward.specs.Worth.{worth_of}
use Rattle.psi_net_model.specs.Network.{Network, NamedReward}
use Rattle.psi_net_model.specs.declared.entries.Queue.{Queue}
use Rattle.psi_report.specs.Samples.{met_states}
use Rattle.psi_report.specs.Quantities.{Quantity, queues_from, queue_quantities, reward_quantities, sum_of}
use Rattle.psi_report.specs.declared.figure.Item.TheVariants.{Sum, RewardSum}
use Rattle.psi_report.proofs.TotalsLemmas.{length-met_states}
use Rattle.psi_report.specs.Report.{figure, queue_trio, reward_trio, quantity_figures, contents_of}
use Rattle.psi_law.specs.Counting.{Words}
use Rattle.psi_law.specs.Chains.{Chain, IsChain}
use Rattle.psi_law.specs.Samples.{Reaches}
use Rattle.psi_law.proofs.ChainLemmas.{end_of-keeps}
use Rattle.psi_law_many.specs.Values.{value_or, sum_or}
use Rattle.psi_law_many.specs.Reports.{report_of, IsReported}

-- ---- samples that did not coalesce

-- one sample before others adds another number, or its value, as often on both sides
others-first : (o : Outcome) (os : List Outcome) (value : List ℕ → ℕ) (other : ℕ)
    → value_or other value o + other * length (met_states (o ∷ os)) ≡ value_or 0 value o + other * suc (length (met_states os))
unfolding met_states
others-first (Met t x) os value other = refl
others-first (NotMet l) os value other = omega arith

others-all : (sample : Words → Outcome) (pasts : List Words) (value : List ℕ → ℕ) (other : ℕ)
    → sum_or other value sample pasts + other * length (met_states (map sample pasts)) ≡ sum_or 0 value sample pasts + other * length (map sample pasts)
unfolding met_states
others-all sample [] value other = omega arith
others-all sample (past ∷ pasts) value other =
    let one = sum_by-cons (λ p. value_or other value (sample p)) past pasts in
    let zeros = sum_by-cons (λ p. value_or 0 value (sample p)) past pasts in
    let first = others-first (sample past) (map sample pasts) value other in
    let rest = others-all sample pasts value other in omega arith

others-are : (sample : Words → Outcome) (pasts : List Words) (value : List ℕ → ℕ) (other : ℕ)
    → sum_or other value sample pasts ≡ sum_or 0 value sample pasts + other * (length (map sample pasts) - length (met_states (map sample pasts)))
others-are sample pasts value other =
    let k = length (map sample pasts) in
    let m = length (met_states (map sample pasts)) in
    let few = length-met_states (map sample pasts) in
    let parts : other * k ≡ other * (m + (k - m)) = ap (λ n. other * n) (omega arith) in
    let all = others-all sample pasts value other in omega arith

-- ---- sums of values that may be negative

shifted-of : (w s : ℤ) (c p v r : ℕ) → w +ℤ pos c ≡ pos v → s +ℤ pos p ≡ pos r → (w +ℤ s) +ℤ pos (p + c) ≡ pos (v + r)
shifted-of w s c p v r first rest = omega (arith, ints, first, rest)

-- one sample before others; worth and c more are a value, at the state where the sample coalesced
shifted-first : (o : Outcome) (os : List Outcome) (worth : List ℕ → ℤ) (value : List ℕ → ℕ) (c r : ℕ) → ((t : ℕ) (x : List ℕ) → o ≡ Met t x → worth x +ℤ pos c ≡ pos (value x))
    → sum_of (map worth (met_states os)) +ℤ pos (c * length (met_states os)) ≡ pos r
    → sum_of (map worth (met_states (o ∷ os))) +ℤ pos (c * length (met_states (o ∷ os))) ≡ pos (value_or 0 value o + r)
unfolding met_states sum_of
shifted-first (Met t x) os worth value c r same rest =
    (let e : c * suc (length (met_states os)) ≡ c * length (met_states os) + c = omega arith in
    ap (λ n. (worth x +ℤ sum_of (map worth (met_states os))) +ℤ pos n) e
    ∙ shifted-of (worth x) (sum_of (map worth (met_states os))) c (c * length (met_states os)) (value x) r (same t x refl) rest)
shifted-first (NotMet l) os worth value c r same rest = (let e : 0 + r ≡ r = omega arith in rest ∙ ap pos (sym e))

shifted-sum : (sample : Words → Outcome) (worth : List ℕ → ℤ) (value : List ℕ → ℕ) (c : ℕ) → ((past : Words) (t : ℕ) (x : List ℕ) → sample past ≡ Met t x → worth x +ℤ pos c ≡ pos (value x))
    → (pasts : List Words) → sum_of (map worth (met_states (map sample pasts))) +ℤ pos (c * length (met_states (map sample pasts))) ≡ pos (sum_or 0 value sample pasts)
unfolding met_states sum_of
shifted-sum sample worth value c same [] = (let e : c * 0 ≡ 0 = omega arith in ap (λ m. pos 0 +ℤ pos m) e)
shifted-sum sample worth value c same (past ∷ pasts) =
    shifted-first (sample past) (map sample pasts) worth value c (sum_or 0 value sample pasts) (same past) (shifted-sum sample worth value c same pasts)
    ∙ ap pos (sym (sum_by-cons (λ p. value_or 0 value (sample p)) past pasts))

sum-is : (value : List ℕ → ℕ) (sample : Words → Outcome) (pasts : List Words) → sum_of (map (λ x. pos (value x)) (met_states (map sample pasts))) ≡ pos (sum_or 0 value sample pasts)
sum-is value sample pasts =
    let shifted = shifted-sum sample (λ x. pos (value x)) value 0 (λ past t x met. (let e : value x + 0 ≡ value x = omega arith in ap pos e)) pasts in
    omega (arith, ints, shifted)

-- samples of a chain that all states reach coalesce in its states
met-own : (chain : Chain) (sample : Words → Outcome) (n : ℕ) → IsChain chain → Reaches chain sample n → (past : Words) (t : ℕ) (x : List ℕ) → sample past ≡ Met t x → In x chain.states
met-own chain sample n is reaches past t x same =
    let y = is.finite.some.0 in let own = is.finite.some.1 in
    subst (λ (z : List ℕ). In z chain.states) (reaches.each past y own t x same) (end_of-keeps chain past n y is.finite own)

-- ---- the figures

-- the quantity of a queue
abbrev customers_at : ℕ → List ℕ → Quantity
customers_at i name = record { name = name; value = λ state. pos (slice_index state i) }

quantity-in : (j : ℕ) (queues : List Queue) (i : ℕ) (queue : Queue) → i < length queues → In (customers_at (j + i) (slice_index_or queues i queue).name) (queues_from j queues)
unfolding queues_from
quantity-in j [] i queue small = absurd (omega arith)
quantity-in j (q ∷ queues) zero queue small = (let e : j + zero ≡ j = omega arith in inl (ap (λ n. customers_at n q.name) e))
quantity-in j (q ∷ queues) (suc i) queue small =
    (let e : j + 1 + i ≡ j + suc i = omega arith in
    inr (subst (λ n. In (customers_at n (slice_index_or queues i queue).name) (queues_from (j + 1) queues)) e (quantity-in (j + 1) queues i queue (omega arith))))

sum-in : (net : Network) (sample : Words → Outcome) (pasts : List Words) (i : ℕ) (queue : Queue) → i < length net.queues
    → In (figure Sum (slice_index_or net.queues i queue).name (pos (sum_or 0 (λ x. slice_index x i) sample pasts))) (report_of net sample pasts).figures
unfolding contents_of
sum-in net sample pasts i queue small =
    let states = met_states (map sample pasts) in
    let name = (slice_index_or net.queues i queue).name in
    let item = figure Sum name (sum_of (map (λ x. pos (slice_index x i)) states)) in
    let e : 0 + i ≡ i = omega arith in
    let member = subst (λ n. In (customers_at n name) (queue_quantities net)) e (quantity-in 0 net.queues i queue small) in
    let own : In item (quantity_figures queue_trio states (customers_at i name)) = inl refl in
    subst (λ (z : ℤ). In (figure Sum name z) (report_of net sample pasts).figures) (sum-is (λ x. slice_index x i) sample pasts)
    (In-append_left item (flat_map (quantity_figures queue_trio states) (queue_quantities net)) (flat_map (quantity_figures reward_trio states) (reward_quantities net))
    (In-flat_map (quantity_figures queue_trio states) (customers_at i name) item (queue_quantities net) member own))

-- the quantity of a reward
abbrev worth_at : NamedReward → Quantity
worth_at reward = record { name = reward.name; value = worth_of reward.kind }

reward-member : (rewards : List NamedReward) (i : ℕ) (reward : NamedReward) → i < length rewards → In (slice_index_or rewards i reward) rewards
reward-member [] i reward small = absurd (omega arith)
reward-member (r ∷ rewards) zero reward small = inl refl
reward-member (r ∷ rewards) (suc i) reward small = inr (reward-member rewards i reward (omega arith))

reward-in : (net : Network) (sample : Words → Outcome) (pasts : List Words) (i : ℕ) (reward : NamedReward) → i < length net.rewards
    → In (figure RewardSum (slice_index_or net.rewards i reward).name (sum_of (map (worth_of (slice_index_or net.rewards i reward).kind) (met_states (map sample pasts))))) (report_of net sample pasts).figures
unfolding contents_of
reward-in net sample pasts i reward small =
    let states = met_states (map sample pasts) in
    let own = slice_index_or net.rewards i reward in
    let item = figure RewardSum own.name (sum_of (map (worth_of own.kind) states)) in
    let member = In-map worth_at own net.rewards (reward-member net.rewards i reward small) in
    let first : In item (quantity_figures reward_trio states (worth_at own)) = inl refl in
    In-append_right item (flat_map (quantity_figures queue_trio states) (queue_quantities net)) (flat_map (quantity_figures reward_trio states) (reward_quantities net))
    (In-flat_map (quantity_figures reward_trio states) (worth_at own) item (reward_quantities net) member first)

pub reported : (net : Network) {chain : Chain} {sample : Words → Outcome} {n : ℕ} → IsChain chain → Reaches chain sample n → IsReported net chain sample
unfolding contents_of
reported net {chain} {sample} {n} is reaches = record {
  samples = λ pasts. length-map pasts sample;
  sums = sum-in net sample;
  rewards = λ pasts i reward value c small same.
      (let worth = worth_of (slice_index_or net.rewards i reward).kind in (
        sum_of (map worth (met_states (map sample pasts))),
        (reward-in net sample pasts i reward small, shifted-sum sample worth value c (λ past t x met. same x (met-own chain sample n is reaches past t x met)) pasts),
      ));
  others = others-are sample;
}
