-- The rewards of samples vary only where a queue does.
use Rattle.std.specs.Prelude.{◌≡◌, ℕ, suc, ◌+◌, ◌<◌, ℤ, pos, ◌≤ℤ◌, List, [], ◌∷◌, ◌++◌, map, length, slice_index, slice_index_or, All, Bool, true, false, None, refl}
use Rattle.std.specs.List.{flat_map}
use Rattle.std.specs.Ordering.{int_eq}
use Rattle.std.proofs.Common.{ap, sym, ◌∙◌, subst, arith}
use Rattle.std.proofs.lemmas.Bool.{and_right}
use Rattle.std.proofs.lemmas.Bool.Decides.{Decides-int_eq}
use Rattle.std.proofs.lemmas.Grind.{same_number_lists}
use Rattle.std.proofs.lemmas.Int.{ints, clamps}
use Rattle.std.proofs.lemmas.List.{length-map}
use Rattle.std.proofs.lemmas.List.Elements.{All-nil, All-cons, All-head, All-tail, All-map, All-weaker}
use Rattle.psi_state.specs.State.{IsBelow}
use Rattle.psi_state.specs.declared.Outcome.{Outcome}
use Rattle.psi_net_model.specs.Network.{Network, caps_of}
use Rattle.psi_net_model.specs.declared.entries.Queue.{Queue}
use Rattle.psi_reward.specs.Ranges.{least, greatest}
use Rattle.psi_report.specs.Samples.{met_states}
use Rattle.psi_report.specs.Quantities.{Quantity, queues_from, queue_quantities, reward_quantities}
use Rattle.psi_report.specs.declared.figure.Figure.{Figure}
use Rattle.psi_report.specs.Report.{queue_trio, reward_trio, quantity_figures}
use Rattle.psi_report_reader.specs.Samples.{AreOf}
use Rattle.psi_report_reader.specs.Sound.{is_greatest, varies, varying_behind, varying_reward}
use Rattle.psi_report_reader.proofs.SampleLemmas.{met-are}
use Rattle.psi_report_reader.proofs.WorthLemmas.{least-has, greatest-has}

int-same : (y z : ℤ) → y ≡ z → int_eq y z ≡ true
int-same y z same = (Decides-int_eq y z).1 same

-- ---- values that are all the same

-- values whose least is their greatest are all the same
all-one : (f : List ℕ → ℤ) (low : ℤ) (x : List ℕ) (xs : List (List ℕ)) → low ≤ℤ least (map f (x ∷ xs)) → greatest (map f (x ∷ xs)) ≤ℤ low → All (λ s. f s ≡ low) (x ∷ xs)
all-one f low x [] from to = All-cons (λ s. f s ≡ low) x [] (omega (arith, ints)) (All-nil (λ s. f s ≡ low))
all-one f low x (y ∷ ys) from to =
    All-cons (λ s. f s ≡ low) x (y ∷ ys) (omega (arith, ints, clamps)) (all-one f low y ys (omega (arith, ints, clamps)) (omega (arith, ints, clamps)))

-- what a quantity of one state comes to
one-least : (f : List ℕ → ℤ) (x : List ℕ) (xs : List (List ℕ)) → All (λ s. s ≡ x) xs → least (map f (x ∷ xs)) ≡ greatest (map f (x ∷ xs))
one-least f x xs all =
    let each : All (λ z. z ≡ f x) (map f (x ∷ xs)) =
    All-map (λ z. z ≡ f x) f (x ∷ xs) (All-cons (λ s. f s ≡ f x) x xs refl (All-weaker (λ s. s ≡ x) (λ s. f s ≡ f x) (λ s same. ap f same) xs all)) in
    let low : least (map f (x ∷ xs)) ≡ f x = least-has (λ z. z ≡ f x) (f x) (map f xs) each in
    let high : greatest (map f (x ∷ xs)) ≡ f x = greatest-has (λ z. z ≡ f x) (f x) (map f xs) each in
    low ∙ sym high

-- ---- states

-- a state has these numbers up to a place
abbrev AreSame : ℕ → List ℕ → List ℕ → Type 0
AreSame i x s = (j : ℕ) → j < i → slice_index s j ≡ slice_index x j

all-more : (i : ℕ) (x : List ℕ) (xs : List (List ℕ)) → All (AreSame i x) xs → All (λ s. pos (slice_index s i) ≡ pos (slice_index x i)) xs → All (AreSame (i + 1) x) xs
all-more i x xs all here k d less j small = grind (arith, ints, all k d less j, here k d less)

-- ---- figures

-- the number at a place of a state
abbrev number : ℕ → List ℕ → ℤ
number i s = pos (slice_index s i)

module _ (x : List ℕ) (xs : List (List ℕ)) where
  abbrev held_at : ℕ → List ℤ
  held_at i = map (number i) (x ∷ xs)

  -- a queue varies, and nothing is asked of the rewards; or each state has its number of the first
  queue-steady : (fs : List Figure) (i : ℕ) (name : List ℕ) (k : ℕ) (e : Figure) → All (AreSame i x) xs → (same : Bool) → int_eq (least (held_at i)) (greatest (held_at i)) ≡ same
      → (All (AreSame (i + 1) x) xs → (k : ℕ) (e : Figure) → varying_behind k e fs ≡ None)
      → varying_behind k e (quantity_figures queue_trio (x ∷ xs) (record { name = name; value = number i }) ++ fs) ≡ None
  queue-steady fs i name k e all false other behind = rw other refl
  queue-steady fs i name k e all true same behind =
      let low : ℤ = least (held_at i) in
      let one : least (held_at i) ≡ greatest (held_at i) = (Decides-int_eq (least (held_at i)) (greatest (held_at i))).0 same in
      let each : All (λ s. number i s ≡ low) (x ∷ xs) = all-one (number i) low x xs (omega (arith, ints)) (omega (arith, ints)) in
      let own : number i x ≡ low = All-head (λ s. number i s ≡ low) x xs each in
      let here : All (λ s. number i s ≡ number i x) xs = All-weaker (λ s. number i s ≡ low) (λ s. number i s ≡ number i x) (λ s is. is ∙ sym own) xs (All-tail (λ s. number i s ≡ low) x xs each) in
      rw same (behind (all-more i x xs all here) _ _)

  -- after queues that don't vary each state is the first
  queues-steady : (rest : List Figure) (i : ℕ) (queues : List Queue) (k : ℕ) (e : Figure) → All (AreSame i x) xs
      → (All (AreSame (i + length queues) x) xs → (k : ℕ) (e : Figure) → varying_behind k e rest ≡ None)
      → varying_behind k e (flat_map (quantity_figures queue_trio (x ∷ xs)) (queues_from i queues) ++ rest) ≡ None
  unfolding queues_from
  queues-steady rest i [] k e all behind =
      let count : i + 0 ≡ i = omega arith in
      behind (rw count all) k e
  queues-steady rest i (queue ∷ queues) k e all behind =
      let count : i + suc (length queues) ≡ i + 1 + length queues = omega arith in
      queue-steady (flat_map (quantity_figures queue_trio (x ∷ xs)) (queues_from (i + 1) queues) ++ rest) i queue.name k e all (int_eq (least (held_at i)) (greatest (held_at i))) refl
      (λ more j f. queues-steady rest (i + 1) queues j f more (λ is. behind (rw count is)))

  rewards-steady : All (λ s. s ≡ x) xs → (rs : List Quantity) (k : ℕ) (e : Figure) → varying_behind k e (flat_map (quantity_figures reward_trio (x ∷ xs)) rs) ≡ None
  rewards-steady all [] k e = refl
  rewards-steady all (r ∷ rs) k e =
      rw (int-same (least (map r.value (x ∷ xs))) (greatest (map r.value (x ∷ xs))) (one-least r.value x xs all)) (rewards-steady all rs _ _)

-- states within capacities that have the same numbers are one
all-first : (caps x : List ℕ) (xs : List (List ℕ)) → length x ≡ length caps → All (λ s. IsBelow s caps) xs → All (AreSame (length caps) x) xs → All (λ s. s ≡ x) xs
all-first caps x xs long below same i d less =
    let count = (below i d less).same_length in
    same_number_lists (slice_index_or xs i d) x (count ∙ sym long) (λ j small. same i d less j (omega arith))

-- the figures of no samples
sums-steady : (rs : List Quantity) (k : ℕ) (e : Figure) → varying_behind k e (flat_map (quantity_figures reward_trio []) rs) ≡ None
sums-steady [] k e = refl
sums-steady (r ∷ rs) k e = sums-steady rs _ _

queue-sums-steady : (qs rs : List Quantity) (k : ℕ) (e : Figure)
    → varying_behind k e (flat_map (quantity_figures queue_trio []) qs ++ flat_map (quantity_figures reward_trio []) rs) ≡ None
queue-sums-steady [] rs k e = sums-steady rs k e
queue-sums-steady (q ∷ qs) rs k e = queue-sums-steady qs rs _ _

-- a value doesn't differ from itself
never-varies : (f : Figure) → varies f f ≡ false
never-varies f = rw (int-same f.value f.value refl) (and_right (is_greatest f.item) false refl)

-- so nothing is asked of a first figure
behind-first : (fs : List Figure) → ((k : ℕ) (e : Figure) → varying_behind k e fs ≡ None) → varying_reward fs ≡ None
behind-first [] all = refl
behind-first (f ∷ fs) all = rw (never-varies f) at (all 0 f)

steady : (caps : List ℕ) (queues : List Queue) (rs : List Quantity) (states : List (List ℕ)) → length queues ≡ length caps → All (λ s. IsBelow s caps) states → (k : ℕ) (e : Figure)
    → varying_behind k e (flat_map (quantity_figures queue_trio states) (queues_from 0 queues) ++ flat_map (quantity_figures reward_trio states) rs) ≡ None
steady caps queues rs [] long below k e = queue-sums-steady (queues_from 0 queues) rs k e
steady caps queues rs (x ∷ xs) long below k e =
    let own : IsBelow x caps = All-head (λ s. IsBelow s caps) x xs below in
    let rest : All (λ s. IsBelow s caps) xs = All-tail (λ s. IsBelow s caps) x xs below in
    let count : 0 + length queues ≡ length caps = omega arith in
    queues-steady x xs (flat_map (quantity_figures reward_trio (x ∷ xs)) rs) 0 queues k e (λ i d less j few. absurd (omega arith))
    (λ same. rewards-steady x xs (all-first caps x xs own.same_length rest (subst (λ (n : ℕ). All (AreSame n x) xs) count same)) rs)

pub samples-steady : (net : Network) (outcomes : List Outcome) → AreOf net outcomes
    → varying_reward (flat_map (quantity_figures queue_trio (met_states outcomes)) (queue_quantities net) ++ flat_map (quantity_figures reward_trio (met_states outcomes)) (reward_quantities net)) ≡ None
samples-steady net outcomes are =
    behind-first (flat_map (quantity_figures queue_trio (met_states outcomes)) (queue_quantities net) ++ flat_map (quantity_figures reward_trio (met_states outcomes)) (reward_quantities net))
    (steady (caps_of net) net.queues (reward_quantities net) (met_states outcomes) (sym (length-map net.queues (λ q. q.capacity))) (met-are net outcomes are.samples).1)
