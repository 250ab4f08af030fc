-- The figures of two lists of samples, one after another, from those of each.
use Rattle.std.specs.Prelude.{◌≡◌, ℕ, suc, ◌+◌, ℤ, List, [], ◌∷◌, ◌++◌, map, length, true, false, None, refl}
use Rattle.std.specs.List.{flat_map}
use Rattle.std.proofs.Common.{ap, sym, ◌∙◌, arith}
use Rattle.std.proofs.lemmas.Bool.{ne_eqb}
use Rattle.std.proofs.lemmas.List.{append-nil, map-append}
use Rattle.std.proofs.lemmas.List.Elements.{filter-append}
use Rattle.std.proofs.lemmas.Slice.Eq.{bytes_eq-Decides}
use Rattle.psi_net_model.specs.Network.{Network}
use Rattle.psi_report.specs.Quantities.{Quantity, queue_quantities, reward_quantities, sum_of}
use Rattle.psi_report.specs.Joined.{paired}
use Rattle.psi_report.proofs.SummaryLemmas.{sum_of-append, least-append, greatest-append}
use Rattle.psi_report.specs.declared.figure.Item.{Item}
use Rattle.psi_report.specs.declared.figure.Item.TheVariants.{Sum, RewardSum}
use Rattle.psi_report.specs.declared.figure.Figure.{Figure}
use Rattle.psi_report.specs.Report.{Trio, queue_trio, reward_trio, figure, figures_of, quantity_figures}
use Rattle.psi_report_reader.specs.Sound.{is_sum, same_sum}
use Rattle.psi_report_reader.specs.Merging.{sums_of, difference, joined_figure, joined_figures}

-- all figures over states
abbrev pub all_figures : Network → List (List ℕ) → List Figure
all_figures net states = flat_map (quantity_figures queue_trio states) (queue_quantities net) ++ flat_map (quantity_figures reward_trio states) (reward_quantities net)

paired-append : (es hs fs gs : List Figure) → length es ≡ length hs → paired joined_figure (es ++ fs) (hs ++ gs) ≡ paired joined_figure es hs ++ paired joined_figure fs gs
paired-append [] [] fs gs same = refl
paired-append [] (h ∷ hs) fs gs same = absurd (omega arith)
paired-append (e ∷ es) [] fs gs same = absurd (omega arith)
paired-append (e ∷ es) (h ∷ hs) fs gs same = ap (λ xs. joined_figure e h ∷ xs) (paired-append es hs fs gs (omega arith))

-- ---- where both lists have states

length-trios : (trio : Trio) (x y : List ℕ) (xs ys : List (List ℕ)) (qs : List Quantity)
    → length (flat_map (quantity_figures trio (x ∷ xs)) qs) ≡ length (flat_map (quantity_figures trio (y ∷ ys)) qs)
length-trios trio x y xs ys [] = refl
length-trios trio x y xs ys (q ∷ qs) = ap (λ n. suc (suc (suc n))) (length-trios trio x y xs ys qs)

-- a trio whose figures are joined so
abbrev IsJoined : Trio → Type 0
IsJoined trio = (name : List ℕ) (y : ℤ) (ys : List ℤ) (z : ℤ) (zs : List ℤ)
    → paired joined_figure (figures_of trio name (y ∷ ys)) (figures_of trio name (z ∷ zs)) ≡ figures_of trio name ((y ∷ ys) ++ (z ∷ zs))

queue-joined : IsJoined queue_trio
queue-joined name y ys z zs = cc (sum_of-append (y ∷ ys) (z ∷ zs), least-append y ys z zs, greatest-append y ys z zs)

reward-joined : IsJoined reward_trio
reward-joined name y ys z zs = cc (sum_of-append (y ∷ ys) (z ∷ zs), least-append y ys z zs, greatest-append y ys z zs)

trios-joined : (trio : Trio) → IsJoined trio → (x y : List ℕ) (xs ys : List (List ℕ)) (qs : List Quantity)
    → paired joined_figure (flat_map (quantity_figures trio (x ∷ xs)) qs) (flat_map (quantity_figures trio (y ∷ ys)) qs)
    ≡ flat_map (quantity_figures trio ((x ∷ xs) ++ (y ∷ ys))) qs
trios-joined trio is x y xs ys [] = refl
trios-joined trio is x y xs ys (q ∷ qs) =
    let own = is q.name (q.value x) (map q.value xs) (q.value y) (map q.value ys) ∙ ap (figures_of trio q.name) (sym (map-append q.value (x ∷ xs) (y ∷ ys))) in
    cc (
      paired-append (quantity_figures trio (x ∷ xs) q) (quantity_figures trio (y ∷ ys) q) (flat_map (quantity_figures trio (x ∷ xs)) qs) (flat_map (quantity_figures trio (y ∷ ys)) qs) refl,
      own,
      trios-joined trio is x y xs ys qs,
    )

pub figures-joined : (net : Network) (xs ys : List (List ℕ))
    → joined_figures (length xs) (length ys) (all_figures net xs) (all_figures net ys) ≡ all_figures net (xs ++ ys)
figures-joined net [] ys = refl
figures-joined net (x ∷ xs) [] = rw (ne_eqb (suc (length xs)) 0 (λ e. absurd (omega arith)), append-nil xs) refl
figures-joined net (x ∷ xs) (y ∷ ys) =
    rw (ne_eqb (suc (length xs)) 0 (λ e. absurd (omega arith)), ne_eqb (suc (length ys)) 0 (λ e. absurd (omega arith)))
    (cc (
      paired-append (flat_map (quantity_figures queue_trio (x ∷ xs)) (queue_quantities net)) (flat_map (quantity_figures queue_trio (y ∷ ys)) (queue_quantities net))
          (flat_map (quantity_figures reward_trio (x ∷ xs)) (reward_quantities net)) (flat_map (quantity_figures reward_trio (y ∷ ys)) (reward_quantities net))
          (length-trios queue_trio x y xs ys (queue_quantities net)),
      trios-joined queue_trio queue-joined x y xs ys (queue_quantities net),
      trios-joined reward_trio reward-joined x y xs ys (reward_quantities net),
    ))

-- ---- the sums are of one network

-- the sum of a quantity
abbrev sum_figure : Item → List (List ℕ) → Quantity → Figure
sum_figure item states q = figure item q.name (sum_of (map q.value states))

trio-sums : (trio : Trio) → is_sum trio.sum ≡ true → is_sum trio.least ≡ false → is_sum trio.greatest ≡ false → (states : List (List ℕ)) (qs : List Quantity)
    → sums_of (flat_map (quantity_figures trio states) qs) ≡ map (sum_figure trio.sum states) qs
trio-sums trio one two three states [] = refl
trio-sums trio one two three states (q ∷ qs) = grind (arith, trio-sums trio one two three states qs)

all-sums : (net : Network) (states : List (List ℕ))
    → sums_of (all_figures net states) ≡ map (sum_figure Sum states) (queue_quantities net) ++ map (sum_figure RewardSum states) (reward_quantities net)
all-sums net states =
    cc (
      filter-append (λ f. is_sum f.item) (flat_map (quantity_figures queue_trio states) (queue_quantities net)) (flat_map (quantity_figures reward_trio states) (reward_quantities net)),
      trio-sums queue_trio refl refl refl states (queue_quantities net),
      trio-sums reward_trio refl refl refl states (reward_quantities net),
    )

difference-alike : (k : ℕ) (item : Item) → same_sum item item ≡ true → (xs ys : List (List ℕ)) (qs : List Quantity) (fs gs : List Figure) → ((n : ℕ) → difference n fs gs ≡ None)
    → difference k (map (sum_figure item xs) qs ++ fs) (map (sum_figure item ys) qs ++ gs) ≡ None
difference-alike k item is xs ys [] fs gs rest = rest k
difference-alike k item is xs ys (q ∷ qs) fs gs rest =
    rw (is, (bytes_eq-Decides q.name q.name).1 refl) (difference-alike (k + 1) item is xs ys qs fs gs rest)

pub difference-none : (net : Network) (xs ys : List (List ℕ)) → difference 0 (sums_of (all_figures net xs)) (sums_of (all_figures net ys)) ≡ None
difference-none net xs ys =
    rw (all-sums net xs, all-sums net ys)
    (difference-alike 0 Sum refl xs ys (queue_quantities net) (map (sum_figure RewardSum xs) (reward_quantities net)) (map (sum_figure RewardSum ys) (reward_quantities net))
    (λ n. (let rest = difference-alike n RewardSum refl xs ys (reward_quantities net) [] [] (λ m. refl) in
    rw (append-nil (map (sum_figure RewardSum xs) (reward_quantities net)), append-nil (map (sum_figure RewardSum ys) (reward_quantities net))) at rest)))
