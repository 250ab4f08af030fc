-- The steps of the loops that count the states of a box, and that turn states into places and back.
use Rattle.std.specs.Prelude.{◌≡◌, ℕ, suc, ◌+◌, ◌-◌, ◌*◌, ◌/◌, ◌%◌, ◌<◌, ◌≤◌, List, length, Some, slice_get, slice_index, slice_set, drop}
use Rattle.std.proofs.Common.{inl, inr, ap, sym, ◌∙◌, add-one, arith}
use Rattle.std.proofs.Math.Nat.{mul_assoc, zero-mul, le-mul_of_pos_right}
use Rattle.std.proofs.lemmas.Bool.{cases_eq}
use Rattle.std.proofs.lemmas.List.{drop-set-lt, get_or-set_same}
use Rattle.psi_state.specs.State.{IsBelow, box}
use Rattle.psi_state.specs.Members.{In}
use Rattle.psi_state.specs.Boxes.{IsBetween}
use Rattle.psi_state.proofs.BoxesLemmas.{set-between, In-of_box}
use Rattle.psi_state.specs.Volume.{volume, place_in}
use Rattle.psi_state.proofs.VolumeLemmas.{volume-drop, volume-drop-some, volume-drop-all, place_in-drop, place_in-drop-all, place_in-small, length-box, slice_get-box}

-- so many states in what was passed, times those in what is left, are all
pub record IsCounting (l h : List ℕ) (i count : ℕ) : Type 0 where
  pub all : count * volume (drop i l) (drop i h) ≡ volume l h

pub counting-next : (l h : List ℕ) (i count width : ℕ) → IsBelow l h → i < length l → width ≡ suc (slice_index h i) - slice_index l i
    → IsCounting l h i count → IsCounting l h (i + 1) (count * width)
counting-next l h i count width ordered small is so_far =
    record { all = rw (add-one, is, mul_assoc, ← volume-drop l h i ordered small) so_far.all }

-- what was passed has no more states than the box
pub counting-most : (l h : List ℕ) (i count : ℕ) → IsBelow l h → IsCounting l h i count → count ≤ length (box l h)
counting-most l h i count ordered so_far =
    let some : 1 ≤ volume (drop i l) (drop i h) = volume-drop-some l h i ordered in
    let more : count ≤ count * volume (drop i l) (drop i h) = le-mul_of_pos_right count some in
    omega (arith, so_far.all, length-box l h)

pub counting-last : (l h : List ℕ) (i count : ℕ) → IsBelow l h → i ≡ length l → IsCounting l h i count → count ≡ length (box l h)
counting-last l h i count ordered end so_far =
    let one : volume (drop i l) (drop i h) ≡ 1 = rw end (volume-drop-all l h ordered.same_length) in
    let all : count * 1 ≡ volume l h = rw one at so_far.all in
    omega (arith, length-box l h)

-- the place of what was passed, in steps of what is left, and the place of what is left, are the whole place
pub record IsRanking (l h x : List ℕ) (i rank : ℕ) : Type 0 where
  pub all : rank * volume (drop i l) (drop i h) + place_in (drop i l) (drop i h) (drop i x) ≡ place_in l h x

-- one digit more in a place value system
horner : (rank width value rest place : ℕ) → rank * (width * rest) + (value * rest + place) ≡ (rank * width + value) * rest + place
horner rank width value rest place = omega arith

-- what was passed doesn't rank above the whole state
pub ranking-most : (l h x : List ℕ) (i rank : ℕ) → IsBelow l h → In x (box l h) → IsRanking l h x i rank → rank < length (box l h)
ranking-most l h x i rank ordered member so_far =
    let some : 1 ≤ volume (drop i l) (drop i h) = volume-drop-some l h i ordered in
    let more : rank ≤ rank * volume (drop i l) (drop i h) = le-mul_of_pos_right rank some in
    let small : place_in l h x < volume l h = place_in-small l h x (In-of_box l h x member) in
    omega (arith, so_far.all, length-box l h)

-- one place more leaves a rank of a state of the box
pub ranking-step : (l h x : List ℕ) (i rank width offset : ℕ) → IsBelow l h → In x (box l h) → i < length l
    → width ≡ suc (slice_index h i) - slice_index l i → offset ≡ slice_index x i - slice_index l i → IsRanking l h x i rank
    → IsRanking l h x (i + 1) (rank * width + offset) × (rank * width + offset < length (box l h))
ranking-step l h x i rank width offset ordered member small wide is so_far =
    let same : length x ≡ length l = sym ((In-of_box l h x member).low.same_length) in
    let all = rw (volume-drop l h i ordered small, place_in-drop l h x i ordered same small, ← wide, ← is) at so_far.all in
    let next : IsRanking l h x (i + 1) (rank * width + offset) = record { all = rw add-one (sym (horner rank width offset _ _) ∙ all) } in
    (next, ranking-most l h x (i + 1) (rank * width + offset) ordered member next)

pub ranking-last : (l h x : List ℕ) (i rank : ℕ) → IsBelow l h → In x (box l h) → i ≡ length l → IsRanking l h x i rank
    → slice_get (box l h) rank ≡ Some x
ranking-last l h x i rank ordered member end so_far =
    let between = In-of_box l h x member in
    let one : volume (drop i l) (drop i h) ≡ 1 = rw end (volume-drop-all l h ordered.same_length) in
    let none : place_in (drop i l) (drop i h) (drop i x) ≡ 0 = rw end (place_in-drop-all l h x) in
    let all : rank * 1 + 0 ≡ place_in l h x = rw (one, none) at so_far.all in
    let place : rank ≡ place_in l h x = omega arith in
    ap (λ k. slice_get (box l h) k) place ∙ slice_get-box l h x between

-- what is left to be placed, in steps of the places that are set, and the place of these, are the whole place
pub record IsUnranking (l h x : List ℕ) (i left r : ℕ) : Type 0 where
  pub between : IsBetween l h x
  pub all : left * volume (drop i l) (drop i h) + place_in (drop i l) (drop i h) (drop i x) ≡ r

-- the number that a place is given is between the corners
pub digit-high : (l h : List ℕ) (i left width : ℕ) → IsBelow l h → i < length l → width ≡ suc (slice_index h i) - slice_index l i
    → slice_index l i + left % width ≤ slice_index h i
digit-high l h i left width ordered small wide =
    let bound : slice_index l i ≤ slice_index h i = ordered.each i small in
    let some : 0 < width = omega arith in
    let digit : left % width < width = omega arith in
    omega arith

pub unranking-next : (l h x : List ℕ) (n i left width v r : ℕ) → IsBelow l h → i < length l → width ≡ suc (slice_index h i) - slice_index l i
    → v ≡ slice_index l i + left % width → n ≡ suc i → IsUnranking l h x n left r → IsUnranking l h (slice_set x i v) i (left / width) r
unranking-next l h x n i left width v r ordered small wide is down so_far =
    let bound : slice_index l i ≤ slice_index h i = ordered.each i small in
    let some : 0 < width = omega arith in
    let digit : left % width < width = omega arith in
    let split : left / width * width + left % width ≡ left = omega arith in
    let value : v - slice_index l i ≡ left % width = omega arith in
    let between = set-between l h x i v so_far.between small (omega arith) (omega arith) in
    let count : length l ≡ length x = so_far.between.low.same_length in
    let at : slice_index (slice_set x i v) i ≡ v = get_or-set_same x i v 0 (omega arith) in
    let away : drop (suc i) (slice_set x i v) ≡ drop (suc i) x = drop-set-lt (suc i) x i v (omega arith) in
    record {
      between = between;
      all = rw (volume-drop l h i ordered small, ← wide, place_in-drop l h (slice_set x i v) i ordered (sym (between.low.same_length)) small, at, value, away)
          (horner (left / width) width (left % width) _ _ ∙ (rw split (rw down at so_far.all)));
    }

-- a place below the number of states is used up, and is that of the state
pub unranking-last : (l h x : List ℕ) (left r : ℕ) → r < length (box l h) → IsUnranking l h x 0 left r → slice_get (box l h) r ≡ Some x
unranking-last l h x left r small so_far =
    let total : length (box l h) ≡ volume l h = length-box l h in
    let all : left * volume l h + place_in l h x ≡ r = so_far.all in
    let used : left ≡ 0 = elim (cases_eq left 0) [
      | inl e ↦ e
      | inr ne ↦ absurd (let more : volume l h ≤ volume l h * left = le-mul_of_pos_right (volume l h) (omega arith) in omega arith)
    ] in
    let none : left * volume l h ≡ 0 = ap (λ n. n * volume l h) used ∙ zero-mul (volume l h) in
    let place : r ≡ place_in l h x = omega arith in
    ap (λ k. slice_get (box l h) k) place ∙ slice_get-box l h x so_far.between
