-- A run that holds one state goes on as a walk of that state.
use Rattle.std.specs.Prelude.{◌≡◌, ℕ, ◌+◌, ◌-◌, ◌≤◌, ◌<◌, List, [], ◌∷◌, ◌++◌, length, slice_index, slice_index_or, slice_set, map, Some, refl}
use Rattle.std.proofs.Common.{inl, inr, ap, sym, ◌∙◌, take, arith, length-set}
use Rattle.std.proofs.lemmas.Bool.{cases_lt}
use Rattle.std.proofs.lemmas.List.{get_or_past, get_or-map, length-map}
use Rattle.std.proofs.Math.Seq.{take-suc}
use Rattle.std.proofs.lemmas.Grind.{common_steps}
use Rattle.psi_state.specs.Members.{In}
use Rattle.psi_state.specs.Sets.{image, single}
use Rattle.psi_state.proofs.BoxesLemmas.{same-from_below}
use Rattle.psi_state.proofs.AscendingLemmas.{rising-same_each}
use Rattle.psi_kinds.specs.declared.moves.Move.{Move}
use Rattle.psi_kinds.specs.Moves.{moved}
use Rattle.psi_closed_arcs.specs.Walks.{customers, IsArc}
use Rattle.psi_closed.specs.Closed.{IsOfTotal, all_arcs, arc_hull, follow_closed, walk_of}
use Rattle.psi_closed.specs.Planned.{AreMoves}
use Rattle.psi_closed.proofs.ArcsLemmas.{arc, In-of_all_arcs, held-rising}
use Rattle.psi_closed.proofs.HullLemmas.{hull-has, hull-of, hull-arcs}
use Rattle.psi_closed.proofs.MovesLemmas.{moved-keeps, moved-cases}

-- a list that has one member is that member alone
single-list : {A : Type 0} (xs : List A) (s : A) → single xs ≡ Some s → xs ≡ s ∷ []
single-list [] s one = absurd cc
single-list (x ∷ []) s one = let same : x ≡ s = cc in ap (λ y. y ∷ []) same
single-list (x ∷ y ∷ ys) s one = absurd cc

-- a state each of whose arcs is one of another's holds what that one does
hull-place : (caps : List ℕ) (k : ℕ) (y x : List ℕ) (i : ℕ) → In x (arc_hull caps k (y ∷ [])) → i < length x → slice_index x i ≡ slice_index y i
hull-place caps k y x i member small =
    let own : IsArc x i (customers (take i x)) (slice_index x i) = record { place = small; sum = refl; own = refl } in
    let found = In-of_all_arcs (y ∷ []) (arc i (customers (take i x)) (slice_index x i)) (hull-arcs caps k (y ∷ []) x i (customers (take i x)) (slice_index x i) member own) in
    elim found.1 [
      | inl same ↦ sym found.2.own ∙ ap (λ (z : List ℕ). slice_index z i) same
      | inr none ↦ absurd none
    ]

hull-same : (caps : List ℕ) (k : ℕ) (y x : List ℕ) → IsOfTotal caps k y → In x (arc_hull caps k (y ∷ [])) → x ≡ y
hull-same caps k y x of member = grind (arith, common_steps, hull-of, same-from_below, hull-place)

-- one state is its own arc hull
hull-one : (caps : List ℕ) (k : ℕ) (y : List ℕ) → IsOfTotal caps k y → arc_hull caps k (y ∷ []) ≡ y ∷ []
hull-one caps k y of =
    rising-same_each (arc_hull caps k (y ∷ [])) y y (held-rising caps k (all_arcs (y ∷ []))) (hull-has caps k (y ∷ []) y of (inl refl))
    (λ x member. hull-same caps k y x of member)

-- the function of a number keeps the states of the total
number-keeps : (caps : List ℕ) (k : ℕ) (moves : List Move) (n : ℕ) (x : List ℕ) → AreMoves caps moves → IsOfTotal caps k x
    → IsOfTotal caps k (slice_index_or (map (λ m. moved caps m) moves) n (λ y. y) x)
number-keeps caps k moves n x are of =
    let first : Move = record { from = 0; k = 0; to = 0 } in
    elim (cases_lt n (length moves)) [
      | inl small ↦ rw (get_or-map (λ m. moved caps m) moves n first (λ y. y) small)
          (moved-keeps caps (slice_index_or moves n first) k x (are n first small) of)
      | inr past ↦
          (let long = length-map moves (λ m. moved caps m) in
          rw (get_or_past (map (λ m. moved caps m) moves) n (λ y. y) (omega arith)) of)
    ]

-- what the moves of numbers make of one state is one state of the total
walk-is : (caps : List ℕ) (k : ℕ) (moves : List Move) (ns s : List ℕ) → AreMoves caps moves → IsOfTotal caps k s → IsOfTotal caps k (walk_of (map (λ m. moved caps m) moves) ns s)
walk-is caps k moves [] s are of = of
walk-is caps k moves (n ∷ ns) s are of =
    number-keeps caps k moves n (walk_of (map (λ m. moved caps m) moves) ns s) are (walk-is caps k moves ns s are of)

follow_closed-one : (caps : List ℕ) (k : ℕ) (moves : List Move) (ns s : List ℕ) → AreMoves caps moves → IsOfTotal caps k s
    → follow_closed caps k (map (λ m. moved caps m) moves) ns (s ∷ []) ≡ walk_of (map (λ m. moved caps m) moves) ns s ∷ []
follow_closed-one caps k moves [] s are of = refl
follow_closed-one caps k moves (n ∷ ns) s are of =
    let functions = map (λ m. moved caps m) moves in
    ap (λ (xs : List (List ℕ)). arc_hull caps k (image (slice_index_or functions n (λ x. x)) xs)) (follow_closed-one caps k moves ns s are of)
    ∙ hull-one caps k (slice_index_or functions n (λ x. x) (walk_of functions ns s)) (walk-is caps k moves (n ∷ ns) s are of)

-- so where a run holds one state after some of its numbers, it ends with what those that are left make of it
pub walk-ending : (caps : List ℕ) (k : ℕ) (moves : List Move) (numbers s x : List ℕ) (t left : ℕ) (states end : List (List ℕ)) → AreMoves caps moves → IsOfTotal caps k s
    → single states ≡ Some s → follow_closed caps k (map (λ m. moved caps m) moves) (take t numbers) states ≡ end → left ≡ t
    → x ≡ walk_of (map (λ m. moved caps m) moves) (take left numbers) s → Some x ≡ single end
walk-ending caps k moves numbers s x t left states end are of one is same walked = grind (arith, common_steps, take, single-list, follow_closed-one)

-- a move keeps the number of queues
pub moved-long : (caps : List ℕ) (m : Move) (x : List ℕ) → length x ≡ length caps → length (moved caps m x) ≡ length caps
moved-long caps m x long = moved-cases (λ y. length y ≡ length caps) caps m x long
    (λ enough room. length-set (slice_set x m.from (slice_index x m.from - 1)) m.to (slice_index x m.to + 1) ∙ (length-set x m.from (slice_index x m.from - 1) ∙ long))

walk_of-append : (functions : List (List ℕ → List ℕ)) (xs ys x : List ℕ) → walk_of functions (xs ++ ys) x ≡ walk_of functions xs (walk_of functions ys x)
walk_of-append functions [] ys x = refl
walk_of-append functions (n ∷ xs) ys x = ap (λ (z : List ℕ). slice_index_or functions n (λ y. y) z) (walk_of-append functions xs ys x)

-- the step of one number takes it off the end
pub walk_of-take : (caps : List ℕ) (moves : List Move) (numbers : List ℕ) (i : ℕ) (d : Move) (x y end : List ℕ) → 1 ≤ i → i ≤ length numbers
    → slice_index numbers (i - 1) < length moves → y ≡ moved caps (slice_index_or moves (slice_index numbers (i - 1)) d) x
    → walk_of (map (λ m. moved caps m) moves) (take i numbers) x ≡ end → walk_of (map (λ m. moved caps m) moves) (take (i - 1) numbers) y ≡ end
walk_of-take caps moves numbers i d x y end some within known stepped is = grind (arith, common_steps, get_or-map, take-suc, walk_of-append)
