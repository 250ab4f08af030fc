-- Lemmas. The tests of a piece, queue by queue.
use Rattle.std.specs.Prelude.{◌≡◌, ℕ, zero, suc, ◌<◌, List, [], ◌∷◌, length, replicate, slice_index, slice_index_or, slice_set, Bool, true, false, ◌+◌, ◌&&◌, refl}
use Rattle.std.proofs.Common.{arith}
use Rattle.psi_event.specs.declared.sides.Side.{Side}
use Rattle.psi_event.specs.declared.sides.Side.TheVariants.{Any}
use Rattle.psi_event.specs.declared.piecewise.Piecewise.{Piecewise}
use Rattle.psi_event.specs.Piecewise.{is_on, all_on, if_on, first_on, second_on, IsSum}

-- where no queue has a side, the piece applies
pub free-on : (n : ℕ) (bounds x : List ℕ) → all_on (replicate n Any) bounds x ≡ true
free-on zero bounds x = refl
free-on (suc n) [] x = refl
free-on (suc n) (bound ∷ bounds) [] = refl
free-on (suc n) (bound ∷ bounds) (v ∷ x) = free-on n bounds x

-- a queue that had no side gets one: its test is asked beside the others
pub set-on : (sides : List Side) (q : ℕ) (side : Side) (bounds x : List ℕ) → q < length sides → q < length bounds → q < length x → slice_index_or sides q Any ≡ Any
    → all_on (slice_set sides q side) bounds x ≡ (is_on side (slice_index bounds q) (slice_index x q) && all_on sides bounds x)
set-on [] q side bounds x in_sides in_bounds in_x free = absurd (omega arith)
set-on (s ∷ sides) q side [] x in_sides in_bounds in_x free = absurd (omega arith)
set-on (s ∷ sides) q side (bound ∷ bounds) [] in_sides in_bounds in_x free = absurd (omega arith)
set-on (s ∷ sides) zero side (bound ∷ bounds) (v ∷ x) in_sides in_bounds in_x free = rw free
set-on (s ∷ sides) (suc q) side (bound ∷ bounds) (v ∷ x) in_sides in_bounds in_x free =
    rw (set-on sides q side bounds x (omega arith) (omega arith) (omega arith) free)
    (swap (is_on s bound v) (is_on side (slice_index bounds q) (slice_index x q)) (all_on sides bounds x))
  where
    swap : (a b c : Bool) → (a && (b && c)) ≡ (b && (a && c))
    swap true b c = refl
    swap false true c = refl
    swap false false c = refl

-- what the pieces add and take, where it is known which of them apply
pub sum-by : (p : Piecewise) (x y : List ℕ) (one two : Bool) → first_on p x ≡ one → second_on p x ≡ two → length y ≡ length x
    → ((q : ℕ) → q < length x → slice_index y q + if_on one (slice_index p.first.downs q) + if_on two (slice_index p.second.downs q)
    ≡ slice_index x q + if_on one (slice_index p.first.ups q) + if_on two (slice_index p.second.ups q))
    → IsSum p x y
sum-by p x y one two is_first is_second long each = record { long = long; each = λ q small. rw (is_first, is_second) (each q small) }
