-- Figures of queues of which none is wrong are those of so many states.
use Rattle.std.specs.Prelude.{◌≡◌, ℕ, zero, suc, ◌<◌, ◌≤◌, ℤ, pos, ◌≤ℤ◌, List, [], ◌∷◌, ◌++◌, map, length, true, unsigned_abs, None, All, refl}
use Rattle.std.specs.List.{flat_map}
use Rattle.std.proofs.Common.{ap, sym, ◌∙◌, subst, arith}
use Rattle.std.proofs.lemmas.Bool.{eqb-true}
use Rattle.std.proofs.lemmas.Int.{ints}
use Rattle.std.proofs.lemmas.List.{length-map}
use Rattle.std.proofs.lemmas.List.Elements.{All-nil, All-cons, All-head, All-tail, All-filter}
use Rattle.std.proofs.lemmas.Slice.Eq.{bytes_eq-Decides}
use Rattle.psi_reward.specs.Ranges.{least, greatest}
use Rattle.psi_report.specs.Quantities.{sum_of}
use Rattle.psi_report.specs.declared.figure.Item.TheVariants.{Sum, Least, Greatest}
use Rattle.psi_report.specs.declared.figure.Figure.{Figure}
use Rattle.psi_report.specs.Report.{queue_trio, extremes, figures_of}
use Rattle.psi_report_reader.specs.Reached.{is_of_queue, AreOfQueues}
use Rattle.psi_report_reader.specs.Sound.{is_sum, AreSummed, figures_flaw}
use Rattle.psi_report_reader.proofs.BetweenLemmas.{between}
use Rattle.psi_report_reader.proofs.FieldLemmas.{figure-record}
use Rattle.psi_report_reader.proofs.GroupLemmas.{Group, group_figures, IsGroup, figures-grouped}
use Rattle.psi_report_reader.proofs.ReachLemmas.{sums_reached}
use Rattle.psi_report_reader.proofs.SumNamesLemmas.{names}

-- a queue's name, and how many customers it holds in each state
pub record Held : Type 0 where
  pub name : List ℕ
  pub numbers : List ℕ

-- its figures
abbrev pub held_figures : Held → List Figure
held_figures h = figures_of queue_trio h.name (map pos h.numbers)

-- queues over n states whose figures these are
pub record AreHeld (n : ℕ) (figures : List Figure) : Type 0 where
  pub queues : List Held
  pub same : flat_map held_figures queues ≡ figures
  pub long : All (λ (h : Held). length h.numbers ≡ n) queues
  pub few : All (λ (h : Held). All (λ v. v ≤ 65535) h.numbers) queues

-- one queue, whose figures these are
record IsHeld (n : ℕ) (name : List ℕ) (figures : List Figure) : Type 0 where
  numbers : List ℕ
  same : figures_of queue_trio name (map pos numbers) ≡ figures
  long : length numbers ≡ n
  few : All (λ v. v ≤ 65535) numbers

-- ---- the figures of one queue

-- values with this least, this greatest and this sum
three-figures : (n : ℕ) (s l g : Figure) (zs : List ℤ) → 0 < n → s.item ≡ Sum → l.item ≡ Least → g.item ≡ Greatest → l.name ≡ s.name → g.name ≡ s.name
    → pos 0 ≤ℤ l.value → g.value ≤ℤ pos 65535 → AreSummed n l.value g.value s.value zs → IsHeld n s.name (s ∷ l ∷ g ∷ [])
three-figures n s l g [] some one two three low_name high_name low high summed = (let count = summed.count in absurd (omega arith))
three-figures n s l g (z ∷ zs) some one two three low_name high_name low high summed =
    let held = between 65535 z zs (rw summed.low_is low) (rw summed.high_is high) in
    let whole = simp length-map at (ap length held.same) in
    let first = figure-record Sum s.item s.name s.name (sum_of (z ∷ zs)) s.value (sym one) refl summed.sum_is in
    let second = figure-record Least l.item s.name l.name (least (z ∷ zs)) l.value (sym two) (sym low_name) summed.low_is in
    let third = figure-record Greatest g.item s.name g.name (greatest (z ∷ zs)) g.value (sym three) (sym high_name) summed.high_is in
    record { numbers = held.numbers; same = rw (held.same, first, second, third) refl; long = omega arith; few = held.few }

group-held : (n : ℕ) (g : Group) → is_of_queue g.sum.item ≡ true → IsGroup n g → IsHeld n g.sum.name (group_figures n g)
unfolding sum_of
group-held zero g queue is =
    let none : unsigned_abs g.sum.value ≡ 0 = eqb-true (unsigned_abs g.sum.value) 0 is.1 in
    record {
      numbers = [];
      same = ap (λ f. f ∷ []) (figure-record Sum g.sum.item g.sum.name g.sum.name (pos 0) g.sum.value (grind arith) refl (omega (arith, ints)));
      long = refl;
      few = All-nil (λ v. v ≤ 65535);
    }
group-held (suc m) g queue is =
    let has = is.1 in
    let one : g.sum.item ≡ Sum = grind (arith, is.0) in
    let two : g.low.item ≡ Least = grind (arith, has.first) in
    let three : g.high.item ≡ Greatest = grind (arith, has.second) in
    let low = rw two at has.low_follows in
    let high = rw three at has.high_follows in
    let same : g.sum.name ≡ g.low.name = (bytes_eq-Decides g.sum.name g.low.name).0 (grind arith) in
    let next : g.low.name ≡ g.high.name = (bytes_eq-Decides g.low.name g.high.name).0 (grind arith) in
    let reached = sums_reached (suc m) g.low.value g.high.value g.sum.value (omega arith) (grind (arith, ints)) has.allowed in
    three-figures (suc m) g.sum g.low g.high reached.0 (omega arith) one two three (sym same) (sym next ∙ sym same) (grind (arith, ints)) (grind (arith, ints)) reached.1

-- ---- all figures

abbrev IsQueue : Figure → Type 0
IsQueue f = is_of_queue f.item ≡ true

groups-held : (n : ℕ) (groups : List Group) → All (IsGroup n) groups → All IsQueue (map (λ (g : Group). g.sum) groups) → AreHeld n (flat_map (group_figures n) groups)
groups-held n [] each queues =
    record { queues = []; same = refl; long = All-nil (λ (h : Held). length h.numbers ≡ n); few = All-nil (λ (h : Held). All (λ v. v ≤ 65535) h.numbers) }
groups-held n (g ∷ groups) each queues =
    let is = group-held n g (All-head IsQueue g.sum (map (λ (g : Group). g.sum) groups) queues) (All-head (IsGroup n) g groups each) in
    let are = groups-held n groups (All-tail (IsGroup n) g groups each) (All-tail IsQueue g.sum (map (λ (g : Group). g.sum) groups) queues) in
    let h : Held = record { name = g.sum.name; numbers = is.numbers } in
    record {
      queues = h ∷ are.queues;
      same = ap (λ fs. fs ++ flat_map held_figures are.queues) is.same ∙ ap (λ fs. group_figures n g ++ fs) are.same;
      long = All-cons (λ (h : Held). length h.numbers ≡ n) h are.queues is.long are.long;
      few = All-cons (λ (h : Held). All (λ v. v ≤ 65535) h.numbers) h are.queues is.few are.few;
    }

pub figures-held : (n : ℕ) (figures : List Figure) → AreOfQueues figures → figures_flaw n figures ≡ None → AreHeld n figures
figures-held n figures queues right =
    let are = figures-grouped n figures right in
    subst (AreHeld n) are.same (groups-held n are.groups are.each (subst (All IsQueue) (sym are.sums) (All-filter (λ (f : Figure). is_sum f.item) IsQueue figures queues)))

-- the sums have the queues' names
pub names-held : (queues : List Held) → names Sum (flat_map held_figures queues) ≡ map (λ (h : Held). h.name) queues
names-held [] = refl
names-held (h ∷ queues) = ap (λ ns. h.name ∷ ns) (past (map pos h.numbers) ∙ names-held queues)
  where
    past : (zs : List ℤ) → names Sum (extremes queue_trio h.name zs ++ flat_map held_figures queues) ≡ names Sum (flat_map held_figures queues)
    past [] = refl
    past (z ∷ zs) = refl
