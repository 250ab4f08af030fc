-- How much a reward makes of a state at most.
use Rattle.std.specs.Prelude.{◌≡◌, ℕ, suc, ◌*◌, ◌≤◌, ℤ, pos, ◌+ℤ◌, List, [], ◌∷◌, ◌++◌, length, map, nat_lt, slice_index, slice_index_or, All, unsigned_abs, int_lt, true, false}
use Rattle.std.specs.List.{flat_map}
use Rattle.std.proofs.Common.{arith}
use Rattle.std.proofs.lemmas.Bool.{cond_both, le-leb}
use Rattle.std.proofs.lemmas.Int.{ints, unsigned_abs-mul}
use Rattle.std.proofs.lemmas.List.{length-map, get_or_past}
use Rattle.std.proofs.lemmas.List.Elements.{All-nil, All-cons, All-head, All-tail, All-map}
use Rattle.std.proofs.lemmas.List.Sums.{count_by-le-length}
use Rattle.std.proofs.lemmas.Nat.{mul-le}
use Rattle.psi_state.specs.State.{IsBelow, AreCapacities}
use Rattle.psi_state.specs.Repeats.{repeats}
use Rattle.psi_state.proofs.RepeatsLemmas.{apart-from_repeats}
use Rattle.psi_guard.proofs.AcceptedLemmas.{few_places}
use Rattle.psi_reward.specs.declared.kinds.RewardKind.{RewardKind}
use Rattle.psi_reward.specs.declared.kinds.RewardKind.TheVariants.{Linear, Table, Greatest, Least, Above}
use Rattle.psi_reward.specs.Held.{held}
use Rattle.psi_reward.specs.Sums.{weighted, entry, added}
use Rattle.psi_reward.specs.Ranges.{least, greatest}
use Rattle.psi_reward.specs.Refusing.{queues_of, IsSmall}
use Rattle.psi_reward.specs.Worth.{worth_of}
use Rattle.psi_net_model.specs.Valid.{IsReward}
use Rattle.psi_report_reader.specs.Sound.{is_reward_value}

-- a number of a state of these capacities
pub held-few : (caps x : List ℕ) (i : ℕ) → AreCapacities caps → IsBelow x caps → slice_index x i ≤ 65535
held-few caps x i are below = grind (arith, below.each i, below.same_length, are.most i, get_or_past x i 0)

-- the least and the greatest of values have what the values have
pub least-has : (P : ℤ → Type 0) (z : ℤ) (zs : List ℤ) → All P (z ∷ zs) → P (least (z ∷ zs))
least-has P z [] all = All-head P z [] all
least-has P z (y ∷ ys) all =
    cond_both (int_lt (least (y ∷ ys)) z) (least (y ∷ ys)) z P (λ e. least-has P y ys (All-tail P z (y ∷ ys) all)) (λ e. All-head P z (y ∷ ys) all)

pub greatest-has : (P : ℤ → Type 0) (z : ℤ) (zs : List ℤ) → All P (z ∷ zs) → P (greatest (z ∷ zs))
greatest-has P z [] all = All-head P z [] all
greatest-has P z (y ∷ ys) all =
    cond_both (int_lt (greatest (y ∷ ys)) z) z (greatest (y ∷ ys)) P (λ e. All-head P z (y ∷ ys) all) (λ e. greatest-has P y ys (All-tail P z (y ∷ ys) all))

-- numbers of customers
abbrev AreFew : List ℕ → Type 0
AreFew vs = All (λ v. v ≤ 65535) vs

-- a value within one queue's
abbrev IsOne : ℤ → Type 0
IsOne z = unsigned_abs z ≤ 65535000000000

weighted-few : (weight : ℤ) (v : ℕ) → IsSmall weight → v ≤ 65535 → IsOne (weighted weight v)
weighted-few weight v small few =
    let product = unsigned_abs-mul weight (pos v) in
    let most : unsigned_abs weight * v ≤ 1000000000 * 65535 = mul-le (unsigned_abs weight) v 1000000000 65535 small few in
    omega arith

entry-few : (row : List ℤ) (v : ℕ) → All IsSmall row → IsOne (entry row v)
entry-few row v small = grind (arith, small v (pos 0), get_or_past row v (pos 0))

sum-few : (y z : ℤ) (n : ℕ) → IsOne y → unsigned_abs z ≤ n * 65535000000000 → unsigned_abs (y +ℤ z) ≤ suc n * 65535000000000
sum-few y z n one rest = omega (arith, ints)

linear-few : (weights : List ℤ) (vs : List ℕ) → All IsSmall weights → AreFew vs → unsigned_abs (added (map weighted weights) vs) ≤ length vs * 65535000000000
linear-few [] vs small few = omega (arith, ints)
linear-few (weight ∷ weights) [] small few = omega (arith, ints)
linear-few (weight ∷ weights) (v ∷ vs) small few =
    sum-few (weighted weight v) (added (map weighted weights) vs) (length vs)
    (weighted-few weight v (All-head IsSmall weight weights small) (All-head (λ n. n ≤ 65535) v vs few))
    (linear-few weights vs (All-tail IsSmall weight weights small) (All-tail (λ n. n ≤ 65535) v vs few))

pub all-left : {A : Type 0} (P : A → Type 0) (xs ys : List A) → All P (xs ++ ys) → All P xs
all-left P [] ys all = All-nil P
all-left P (x ∷ xs) ys all = All-cons P x xs (All-head P x (xs ++ ys) all) (all-left P xs ys (All-tail P x (xs ++ ys) all))

pub all-right : {A : Type 0} (P : A → Type 0) (xs ys : List A) → All P (xs ++ ys) → All P ys
all-right P [] ys all = all
all-right P (x ∷ xs) ys all = all-right P xs ys (All-tail P x (xs ++ ys) all)

table-few : (table : List (List ℤ)) (vs : List ℕ) → All IsSmall (flat_map (λ row. row) table) → unsigned_abs (added (map entry table) vs) ≤ length vs * 65535000000000
table-few [] vs small = omega (arith, ints)
table-few (row ∷ table) [] small = omega (arith, ints)
table-few (row ∷ table) (v ∷ vs) small =
    sum-few (entry row v) (added (map entry table) vs) (length vs) (entry-few row v (all-left IsSmall row (flat_map (λ r. r) table) small)) (table-few table vs (all-right IsSmall row (flat_map (λ r. r) table) small))

-- a worth of at most 32 queues
abbrev IsFew : ℤ → Type 0
IsFew z = unsigned_abs z ≤ 2097120000000000

least-few : (vs : List ℕ) → AreFew vs → IsFew (least (map pos vs))
least-few [] few = omega (arith, ints)
least-few (v ∷ vs) few = (let one : unsigned_abs (least (map pos (v ∷ vs))) ≤ 65535 = least-has (λ z. unsigned_abs z ≤ 65535) (pos v) (map pos vs) (All-map (λ z. unsigned_abs z ≤ 65535) pos (v ∷ vs) few) in omega arith)

greatest-few : (vs : List ℕ) → AreFew vs → IsFew (greatest (map pos vs))
greatest-few [] few = omega (arith, ints)
greatest-few (v ∷ vs) few = (let one : unsigned_abs (greatest (map pos (v ∷ vs))) ≤ 65535 = greatest-has (λ z. unsigned_abs z ≤ 65535) (pos v) (map pos vs) (All-map (λ z. unsigned_abs z ≤ 65535) pos (v ∷ vs) few) in omega arith)

-- no queue is listed twice, so no more than there are
few-queues : (caps : List ℕ) (kind : RewardKind) → AreCapacities caps → IsReward caps kind → length (queues_of kind) ≤ 32
few-queues caps kind are is =
    let once : repeats (queues_of kind) ≡ false = grind (arith, is.accepted) in
    let count : length (queues_of kind) ≤ length caps = few_places (length caps) (length (queues_of kind)) (λ i. slice_index (queues_of kind) i) (λ i less. is.queues i 0 less)
    (λ i j first second same. apart-from_repeats (queues_of kind) i j once first second same) in
    omega arith

worth-most : (caps : List ℕ) (kind : RewardKind) (x : List ℕ) → AreCapacities caps → IsReward caps kind → AreFew (held (queues_of kind) x) → length (held (queues_of kind) x) ≤ 32 → IsFew (worth_of kind x)
worth-most caps (Linear queues weights) x are is few count = (let most = linear-few weights (held queues x) is.numbers few in omega arith)
worth-most caps (Table queues table) x are is few count = (let most = table-few table (held queues x) is.numbers in omega arith)
worth-most caps (Greatest queues) x are is few count = greatest-few (held queues x) few
worth-most caps (Least queues) x are is few count = least-few (held queues x) few
worth-most caps (Above queues level) x are is few count = (let most = count_by-le-length (λ v. nat_lt level v) (held queues x) in omega (arith, ints))

pub worth-few : (caps : List ℕ) (kind : RewardKind) (x : List ℕ) → AreCapacities caps → IsReward caps kind → IsBelow x caps → is_reward_value (worth_of kind x) ≡ true
worth-few caps kind x are is below =
    let few : AreFew (held (queues_of kind) x) = All-map (λ v. v ≤ 65535) (λ queue. slice_index x queue) (queues_of kind) (λ i d less. held-few caps x (slice_index_or (queues_of kind) i d) are below) in
    let long : length (held (queues_of kind) x) ≡ length (queues_of kind) = length-map (queues_of kind) (λ queue. slice_index x queue) in
    let count = few-queues caps kind are is in
    le-leb (unsigned_abs (worth_of kind x)) 2097120000000000 (worth-most caps kind x are is few (omega arith))
