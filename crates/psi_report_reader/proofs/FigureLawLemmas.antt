-- The figures of samples may stand one after another.
use Rattle.std.specs.Prelude.{◌≡◌, ℕ, suc, ◌≤◌, ℤ, pos, List, [], ◌∷◌, ◌++◌, map, length, Bool, true, false, ◌==◌, cond, nat_lt, int_le, None, All, refl}
use Rattle.std.specs.List.{flat_map}
use Rattle.std.specs.Str.{bytes_eq}
use Rattle.std.proofs.Common.{ap, sym, ◌∙◌, subst, append_assoc, inl, inr, arith, rules}
use Rattle.std.proofs.lemmas.Bool.{lt-ltb, ne_eqb}
use Rattle.std.proofs.lemmas.Bool.Decides.{nat_tests}
use Rattle.std.proofs.lemmas.List.{append-nil, length-map, length-append}
use Rattle.std.proofs.lemmas.Slice.Eq.{bytes_eq-Decides}
use Rattle.psi_state.specs.Ascending.{IsDistinct}
use Rattle.psi_state.specs.Members.{In}
use Rattle.psi_state.proofs.MembersLemmas.{In-append_right}
use Rattle.psi_reward.specs.Ranges.{least, greatest}
use Rattle.psi_report.specs.Quantities.{Quantity, sum_of}
use Rattle.psi_report.specs.declared.figure.Item.{Item}
use Rattle.psi_report.specs.declared.figure.Item.TheVariants.{Sum, RewardSum}
use Rattle.psi_report.specs.declared.figure.Figure.{Figure}
use Rattle.psi_report.specs.Report.{Trio, queue_trio, reward_trio, figure, extremes, quantity_figures}
use Rattle.psi_report_reader.specs.Sound.{may_follow, is_sum, may_end, same_sum, most_of, is_new, is_customers, is_reward_value, is_extreme, is_ordered, extreme_follows, agrees, may_stand, flaw_behind, figures_flaw}
use Rattle.psi_report_reader.proofs.AllowLemmas.{allowed, ordered, allows-allowed}
use Rattle.psi_report_reader.proofs.WorthLemmas.{least-has, greatest-has}
use Rattle.psi_report_reader.proofs.SampleLemmas.{ArePassing, AreShown}
use Rattle.psi_report_reader.proofs.SumNamesLemmas.{names, names-append, new-in}

own-name : (name : List ℕ) → bytes_eq name name ≡ true
own-name name = (bytes_eq-Decides name name).1 refl

-- ---- names

-- the names of the sums of a kind and those of quantities to come differ, and are few
record HasRoom (i : Item) (before : List Figure) (qs : List Quantity) : Type 0 where
  differ : IsDistinct (names i before ++ map (λ (q : Quantity). q.name) qs)
  few : length (names i before ++ map (λ (q : Quantity). q.name) qs) ≤ most_of i

distinct-before : (xs : List (List ℕ)) (x : List ℕ) (ys : List (List ℕ)) → IsDistinct (xs ++ x ∷ ys) → In x xs → ⊥
distinct-before [] x ys differ there = there
distinct-before (y ∷ xs) x ys differ there = elim there [
  | inl same ↦ differ.0 (In-append_right y xs (x ∷ ys) (inl (sym same)))
  | inr later ↦ distinct-before xs x ys differ.1 later
]

-- so the sum of the next quantity is new
sum-new : (i : Item) (before : List Figure) (q : Quantity) (z : ℤ) (qs : List Quantity) → HasRoom i before (q ∷ qs) → is_new before (figure i q.name z) ≡ true
sum-new i before q z qs room =
    new-in before (figure i q.name z) (distinct-before (names i before) q.name (map (λ (r : Quantity). r.name) qs) room.differ)
    (let long = length-append (names i before) (q.name ∷ map (λ (r : Quantity). r.name) qs) in let few = room.few in omega arith)

-- ---- the figures of a quantity

-- what the items of a queue, or of a reward, are
record IsTrio (trio : Trio) (p : ℤ → Bool) : Type 0 where
  sum : is_sum trio.sum ≡ true
  least : is_sum trio.least ≡ false
  greatest : is_sum trio.greatest ≡ false
  own : same_sum trio.sum trio.sum ≡ true
  first : may_follow true trio.sum trio.least ≡ true
  second : may_follow true trio.least trio.greatest ≡ true
  low : (z : ℤ) → is_extreme trio.least z ≡ p z
  high : (z : ℤ) → is_extreme trio.greatest z ≡ p z
  free : (y z : ℤ) → is_ordered trio.least y z ≡ true
  order : (y z : ℤ) → is_ordered trio.greatest y z ≡ int_le y z

no-sum : (i j : Item) → is_sum i ≡ false → same_sum i j ≡ false
no-sum i j isnt = grind arith

queues-are : IsTrio queue_trio is_customers
queues-are = search rules

rewards-are : IsTrio reward_trio is_reward_value
rewards-are = search rules

-- the last figure of a quantity
abbrev last_item : List (List ℕ) → Trio → Item
last_item [] trio = trio.sum
last_item (x ∷ xs) trio = trio.greatest

abbrev last_value : List (List ℕ) → Quantity → ℤ
last_value [] q = sum_of []
last_value (x ∷ xs) q = greatest (map q.value (x ∷ xs))

abbrev last_figure : List (List ℕ) → Trio → Quantity → Figure
last_figure states trio q = figure (last_item states trio) q.name (last_value states q)

module _ (trio : Trio) (p : ℤ → Bool) (is : IsTrio trio p) where
  trio-names : (i : Item) (b : Bool) → same_sum trio.sum i ≡ b → (states : List (List ℕ)) (q : Quantity) → names i (quantity_figures trio states q) ≡ cond b (q.name ∷ []) []
  trio-names i b own states q = grind (arith, no-sum trio.least i is.least, no-sum trio.greatest i is.greatest)

  room-behind : (states : List (List ℕ)) (before : List Figure) (q : Quantity) (qs : List Quantity) → HasRoom trio.sum before (q ∷ qs) → HasRoom trio.sum (before ++ quantity_figures trio states q) qs
  room-behind states before q qs room =
      let rest = map (λ (r : Quantity). r.name) qs in
      let same : names trio.sum (before ++ quantity_figures trio states q) ++ rest ≡ names trio.sum before ++ q.name ∷ rest =
      cc (names-append trio.sum before (quantity_figures trio states q), trio-names trio.sum true is.own states q, append_assoc (names trio.sum before) (q.name ∷ []) rest) in
      record { differ = rw same room.differ; few = rw same room.few }

  -- where samples are met, the sum and its extremes
  module _ (name : List ℕ) (z : ℤ) (zs : List ℤ) (passing : All (λ y. p y ≡ true) (z ∷ zs)) where
    abbrev sum_figure : Figure
    sum_figure = figure trio.sum name (sum_of (z ∷ zs))

    abbrev least_figure : Figure
    least_figure = figure trio.least name (least (z ∷ zs))

    abbrev greatest_figure : Figure
    greatest_figure = figure trio.greatest name (greatest (z ∷ zs))

    trio-behind : (before : List Figure) (e : Figure) (rest : List Figure) → may_follow (nat_lt 0 (suc (length zs))) e.item trio.sum ≡ true → is_new before sum_figure ≡ true
        → flaw_behind (suc (length zs)) before e (sum_figure ∷ least_figure ∷ greatest_figure ∷ rest)
        ≡ flaw_behind (suc (length zs)) (before ++ (sum_figure ∷ least_figure ∷ greatest_figure ∷ [])) greatest_figure rest
    trio-behind before e rest next new =
        let some : nat_lt 0 (suc (length zs)) ≡ true = lt-ltb 0 (suc (length zs)) (omega arith) in
        let count : (suc (length zs) == 0) ≡ false = ne_eqb (suc (length zs)) 0 (λ e. absurd (omega arith)) in
        let low : extreme_follows sum_figure least_figure ≡ true =
        rw (own-name name, is.low (least (z ∷ zs)), least-has (λ y. p y ≡ true) z zs passing, is.free (sum_of (z ∷ zs)) (least (z ∷ zs))) refl in
        let high : extreme_follows least_figure greatest_figure ≡ true =
        rw (own-name name, is.high (greatest (z ∷ zs)), greatest-has (λ y. p y ≡ true) z zs passing, is.order (least (z ∷ zs)) (greatest (z ∷ zs)), ordered (least (z ∷ zs)) (greatest (z ∷ zs)) (allowed z zs).order) refl in
        let agree : agrees (suc (length zs)) sum_figure (least_figure ∷ greatest_figure ∷ rest) ≡ true =
        rw (count, is.first, is.second, low, high) (allows-allowed (length zs) (least (z ∷ zs)) (greatest (z ∷ zs)) (sum_of (z ∷ zs)) (allowed z zs)) in
        let may : may_stand (suc (length zs)) before e sum_figure (least_figure ∷ greatest_figure ∷ rest) ≡ true = rw (next, is.sum, new) agree in
        rw (may, some, is.first, is.least, low, is.second, is.greatest, high)
        (cc (append_assoc (before ++ sum_figure ∷ []) (least_figure ∷ []) (greatest_figure ∷ []), append_assoc before (sum_figure ∷ []) (least_figure ∷ greatest_figure ∷ [])))

  quantity-behind : (states : List (List ℕ)) (q : Quantity) → All (λ z. p z ≡ true) (map q.value states) → (before : List Figure) (e : Figure) (rest : List Figure)
      → may_follow (nat_lt 0 (length states)) e.item trio.sum ≡ true → is_new before (figure trio.sum q.name (sum_of (map q.value states))) ≡ true
      → flaw_behind (length states) before e (quantity_figures trio states q ++ rest) ≡ flaw_behind (length states) (before ++ quantity_figures trio states q) (last_figure states trio q) rest
  unfolding sum_of
  quantity-behind [] q passing before e rest next new = rw (next, is.sum, new) refl
  quantity-behind (x ∷ xs) q passing before e rest next new =
      let long : length (map q.value xs) ≡ length xs = length-map xs q.value in
      subst (λ (n : ℕ). flaw_behind (suc n) before e (quantity_figures trio (x ∷ xs) q ++ rest) ≡ flaw_behind (suc n) (before ++ quantity_figures trio (x ∷ xs) q) (last_figure (x ∷ xs) trio q) rest) long
      (trio-behind q.name (q.value x) (map q.value xs) passing before e rest (rw long next) new)

  -- the figures of quantities one after another, and the last of them
  abbrev last_of : List (List ℕ) → Figure → List Quantity → Figure
  last_of states e [] = e
  last_of states e (q ∷ qs) = last_of states (last_figure states trio q) qs

  last-has : (P : Item → Type 0) (states : List (List ℕ)) (e : Figure) (qs : List Quantity) → P e.item → P (last_item states trio) → P (last_of states e qs).item
  last-has P states e [] own last = own
  last-has P states e (q ∷ qs) own last = last-has P states (last_figure states trio q) qs last last

  quantities-behind : (states : List (List ℕ)) (qs : List Quantity) (before : List Figure) (e : Figure) (rest : List Figure) → may_follow (nat_lt 0 (length states)) e.item trio.sum ≡ true
      → may_follow (nat_lt 0 (length states)) (last_item states trio) trio.sum ≡ true → HasRoom trio.sum before qs → ArePassing p states qs
      → flaw_behind (length states) before e (flat_map (quantity_figures trio states) qs ++ rest)
      ≡ flaw_behind (length states) (before ++ flat_map (quantity_figures trio states) qs) (last_of states e qs) rest
  quantities-behind states [] before e rest next more room passing = ap (λ (fs : List Figure). flaw_behind (length states) fs e rest) (sym (append-nil before))
  quantities-behind states (q ∷ qs) before e rest next more room passing =
      let own = quantity_figures trio states q in
      let others = flat_map (quantity_figures trio states) qs in
      ap (flaw_behind (length states) before e) (append_assoc own others rest)
      ∙ quantity-behind states q passing.0 before e (others ++ rest) next (sum-new trio.sum before q (sum_of (map q.value states)) qs room)
      ∙ quantities-behind states qs (before ++ own) (last_figure states trio q) rest more more (room-behind states before q qs room) passing.1
      ∙ ap (λ (fs : List Figure). flaw_behind (length states) fs (last_of states (last_figure states trio q) qs) rest) (append_assoc before own others)

-- ---- all figures

-- queues have no reward's name
no-rewards : (states : List (List ℕ)) (qs : List Quantity) → names RewardSum (flat_map (quantity_figures queue_trio states) qs) ≡ []
no-rewards states [] = refl
no-rewards states (q ∷ qs) =
    cc (
      names-append RewardSum (quantity_figures queue_trio states q) (flat_map (quantity_figures queue_trio states) qs),
      trio-names queue_trio is_customers queues-are RewardSum false refl states q,
      no-rewards states qs,
    )

next-follows : (states : List (List ℕ)) (t u : Trio) → may_follow false t.sum u.sum ≡ true → may_follow true t.greatest u.sum ≡ true
    → may_follow (nat_lt 0 (length states)) (last_item states t) u.sum ≡ true
next-follows states t u none some = grind (arith, nat_tests)

last-ends : (states : List (List ℕ)) (t : Trio) → may_end false t.sum ≡ true → may_end true t.greatest ≡ true → may_end (nat_lt 0 (length states)) (last_item states t) ≡ true
last-ends states t none some = grind (arith, nat_tests)

-- the first figure stands as after one that a queue's sum may follow
first-behind : (n : ℕ) (name : List ℕ) (z : ℤ) (fs : List Figure) (e : Figure) → may_follow (nat_lt 0 n) e.item Sum ≡ true → figures_flaw n (figure Sum name z ∷ fs) ≡ flaw_behind n [] e (figure Sum name z ∷ fs)
first-behind n name z fs e next = rw next refl

pub shown-sound : (states : List (List ℕ)) (qs rs : List Quantity) → 1 ≤ length qs → AreShown is_customers 32 states qs → AreShown is_reward_value 64 states rs
    → figures_flaw (length states) (flat_map (quantity_figures queue_trio states) qs ++ flat_map (quantity_figures reward_trio states) rs) ≡ None
shown-sound states [] rs some queues rewards = absurd (omega arith)
shown-sound states (q ∷ qs) rs some queues rewards =
    let n = length states in
    let first = flat_map (quantity_figures queue_trio states) (q ∷ qs) in
    let second = flat_map (quantity_figures reward_trio states) rs in
    let e = figure (last_item states queue_trio) [] (pos 0) in
    let f = last_of queue_trio is_customers queues-are states e (q ∷ qs) in
    let again = next-follows states queue_trio queue_trio refl refl in
    let next : may_follow (nat_lt 0 n) f.item RewardSum ≡ true =
    last-has queue_trio is_customers queues-are (λ i. may_follow (nat_lt 0 n) i RewardSum ≡ true) states e (q ∷ qs) (next-follows states queue_trio reward_trio refl refl) (next-follows states queue_trio reward_trio refl refl) in
    let queue_ends = last-has queue_trio is_customers queues-are (λ i. may_end (nat_lt 0 n) i ≡ true) states e (q ∷ qs) (last-ends states queue_trio refl refl) (last-ends states queue_trio refl refl) in
    let ends = last-has reward_trio is_reward_value rewards-are (λ i. may_end (nat_lt 0 n) i ≡ true) states f rs queue_ends (last-ends states reward_trio refl refl) in
    let others = map (λ (r : Quantity). r.name) rs in
    let alone : names RewardSum first ++ others ≡ others = ap (λ (ns : List (List ℕ)). ns ++ others) (no-rewards states (q ∷ qs)) in
    first-behind n q.name (sum_of (map q.value states)) ((extremes queue_trio q.name (map q.value states) ++ flat_map (quantity_figures queue_trio states) qs) ++ second) e again
    ∙ quantities-behind queue_trio is_customers queues-are states (q ∷ qs) [] e second again again (record { differ = queues.differ; few = simp length-map (omega arith) }) queues.passing
    ∙ ap (flaw_behind n first f) (sym (append-nil second))
    ∙ quantities-behind reward_trio is_reward_value rewards-are states rs first f [] next (next-follows states reward_trio reward_trio refl refl)
    (record { differ = subst (IsDistinct {A = List ℕ}) (sym alone) rewards.differ; few = rw (alone, length-map) (omega arith) }) rewards.passing
    ∙ rw ends refl
