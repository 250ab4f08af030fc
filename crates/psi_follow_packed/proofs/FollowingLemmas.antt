-- Runs over numbers of events, from the last number on.
use Rattle.std.specs.Prelude.{◌≡◌, ℕ, ◌-◌, ◌<◌, ◌≤◌, List, length, map, slice_index, slice_index_or}
use Rattle.std.proofs.Common.{ap, sym, ◌∙◌, subst, drop, arith}
use Rattle.std.proofs.lemmas.List.{get_or_default, get_or-map, length-map}
use Rattle.std.proofs.Math.Seq.{drop-length}
use Rattle.psi_state.specs.State.{IsBelow}
use Rattle.psi_event.specs.Law.{Function, IsClosed}
use Rattle.psi_event.specs.Numbers.{follow_numbers}
use Rattle.psi_event.proofs.NumbersLemmas.{follow_numbers-drop}
use Rattle.psi_region.proofs.FollowedLemmas.{follow_numbers-closed}
use Rattle.psi_follow_packed.specs.Packed.{packed}
use Rattle.psi_follow_packed.specs.Moves.{Moving, IsMoved, no_move}
use Rattle.psi_follow_packed.specs.Programs.{Prepared, Prepares, Follows}
use Rattle.psi_follow_packed.specs.declared.moves.PackedEvent.{PackedEvent}
use Rattle.psi_follow_packed.proofs.MovingLemmas.{program-moves}

-- a run stays within the capacities
pub follow_numbers-within : (count : ℕ) (caps : List ℕ) (functions : List Function) (p : Prepared) → Prepares count caps functions p → (numbers : List ℕ) (x : List ℕ)
    → IsBelow x caps → IsBelow (follow_numbers functions numbers x) caps
follow_numbers-within count caps functions p prepared numbers x below =
    follow_numbers-closed caps functions numbers x
    (λ k d small. subst (λ (f : Function). IsClosed caps f) (get_or_default functions k (λ y. y) d small)
    (subst (λ (cs : List ℕ). IsClosed cs (slice_index_or functions k (λ y. y))) prepared.same_caps ((prepared.each k small).closed)))
    below

-- no number is left after the last
pub follows-none : (count : ℕ) (p : Prepared) (numbers before : List ℕ) → Follows count p (drop (length numbers) numbers) before before
follows-none count p numbers before = λ caps functions s prepared below same.
    same ∙ ap (λ (ns : List ℕ). packed count p.packing (follow_numbers functions ns s)) (sym (drop-length numbers))

-- the move of one number more
pub follows-more : (count : ℕ) (p : Prepared) (numbers : List ℕ) (i : ℕ) (before x y : List ℕ) (m : Moving) → 1 ≤ i → i ≤ length numbers
    → slice_index numbers (i - 1) < length p.moves → m ≡ slice_index_or p.moves (slice_index numbers (i - 1)) no_move → IsMoved count m x y
    → Follows count p (drop i numbers) before x → Follows count p (drop (i - 1) numbers) before y
follows-more count p numbers i before x y m some within small read moved rest = λ caps functions s prepared below same.
    program-moves count p caps functions (follow_numbers functions (drop i numbers) s) x y (slice_index numbers (i - 1)) small prepared
    (follow_numbers-within count caps functions p prepared (drop i numbers) s below) (rest caps functions s prepared below same)
    (subst (λ (n : Moving). IsMoved count n x y) read moved)
    ∙ ap (packed count p.packing) (sym (follow_numbers-drop functions numbers i s some within))

-- the move that is read for a number
pub move-read : {K : ℕ} (p : Prepared) (moving : PackedEvent K → Moving) (items now : List (PackedEvent K)) (number : ℕ) (m : PackedEvent K) → map moving items ≡ p.moves → now ≡ items
    → m ≡ slice_index_or now number m → number < length p.moves → moving m ≡ slice_index_or p.moves number no_move
move-read {K} p moving items now number m same own read small =
    let long : length (map moving items) ≡ length p.moves = ap (λ (ms : List Moving). length ms) same in
    let within : number < length items = omega (arith, long, length-map items moving) in
    ap moving (read ∙ ap (λ (ms : List (PackedEvent K)). slice_index_or ms number m) own)
    ∙ sym (get_or-map moving items number m no_move within)
    ∙ ap (λ (ms : List Moving). slice_index_or ms number no_move) same
