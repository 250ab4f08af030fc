-- Runs that follow the corners of a box, from the last number on.
use Rattle.std.specs.Prelude.{◌≡◌, ℕ, suc, ◌-◌, ◌<◌, ◌≤◌, ◌↔◌, List, [], length, slice_index, slice_index_or, Bool, true, false, IsTrue}
use Rattle.std.proofs.Common.{inl, inr, ap, sym, ◌∙◌, subst, drop, arith}
use Rattle.std.proofs.lemmas.Bool.{cases_lt, true≢false}
use Rattle.std.proofs.Math.Seq.{drop-length}
use Rattle.psi_state.specs.State.{IsBelow}
use Rattle.psi_state.proofs.BoxesLemmas.{below-through}
use Rattle.psi_event.specs.Law.{Function}
use Rattle.psi_event.specs.Numbers.{follow_numbers}
use Rattle.psi_event.proofs.NumbersLemmas.{follow_numbers-drop}
use Rattle.psi_follow_packed.specs.Packed.{packed}
use Rattle.psi_follow_packed.specs.Moves.{IsMoved, no_move}
use Rattle.psi_follow_packed.specs.Programs.{Prepared, Prepares}
use Rattle.psi_follow_packed.specs.Boxes.{AreCorners, AreFollowed, AreMonotoneUnhalted, box_from, halts_at}
use Rattle.psi_follow_packed.proofs.MovingLemmas.{program-moves}

-- where it isn't told that a box has few states, it has many
pub many-told : (told : Bool) (total most : ℕ) → IsTrue told ↔ total ≤ most → told ≡ false → most < total
many-told true total most tells none = absurd (true≢false none)
many-told false total most tells none = elim (cases_lt most total) [
  | inl many ↦ many
  | inr few ↦ absurd (true≢false (sym (tells.1 few)))
]

module _ (count : ℕ) (p : Prepared) (caps : List ℕ) (functions : List Function) (numbers : List ℕ) (halts : List Bool) (most : ℕ) (lo hi : List ℕ)
    (prepared : Prepares count caps functions p) (monotone : AreMonotoneUnhalted caps functions halts) where
  -- what the numbers from a place on make of a state
  abbrev from : ℕ → List ℕ → List ℕ
  from i x = follow_numbers functions (drop i numbers) x

  pub followed-none : (low high : List ℕ) → AreCorners count p.packing low high lo hi
      → AreFollowed count p.packing functions numbers halts most lo hi low high (length numbers)
  followed-none low high corners =
      let none : drop (length numbers) numbers ≡ [] = drop-length numbers in
      record {
        corners = subst (λ (ns : List ℕ). AreCorners count p.packing low high (follow_numbers functions ns lo) (follow_numbers functions ns hi)) (sym none) corners;
        many = λ i past within. absurd (omega arith);
        unhalted = λ i past within. absurd (omega arith);
      }

  module _ (i : ℕ) (low high : List ℕ) (some : 1 ≤ i) (within : i ≤ length numbers) (known : slice_index numbers (i - 1) < length p.moves)
      (followed : AreFollowed count p.packing functions numbers halts most lo hi low high i) where
    abbrev function : Function
    function = slice_index_or functions (slice_index numbers (i - 1)) (λ z. z)

    here : slice_index numbers (i - 1) < length functions
    here = omega (arith, known, prepared.same_count)

    step : (x : List ℕ) → from (i - 1) x ≡ function (from i x)
    step x = follow_numbers-drop functions numbers i x some within

    closed : (x : List ℕ) → IsBelow x p.packing.caps → IsBelow (function x) p.packing.caps
    closed x below = (prepared.each (slice_index numbers (i - 1)) here).closed.each x below

    caps-of : (x : List ℕ) → IsBelow x p.packing.caps → IsBelow x caps
    caps-of x below = subst (λ (cs : List ℕ). IsBelow x cs) prepared.same_caps below

    lower-within : IsBelow (from i lo) p.packing.caps
    lower-within = below-through (from i lo) (from i hi) p.packing.caps followed.corners.ordered followed.corners.within

    pub followed-more : (low_after high_after : List ℕ) → most < length (box_from functions numbers lo hi i) → halts_at halts numbers (i - 1) ≡ false
        → IsMoved count (slice_index_or p.moves (slice_index numbers (i - 1)) no_move) low low_after
        → IsMoved count (slice_index_or p.moves (slice_index numbers (i - 1)) no_move) high high_after
        → AreFollowed count p.packing functions numbers halts most lo hi low_after high_after (i - 1)
    followed-more low_after high_after many unhalted lower upper =
        let last : suc (i - 1) ≡ i = omega arith in
        record {
          corners = record {
            ordered = subst (λ (x : List ℕ). IsBelow x (from (i - 1) hi)) (sym (step lo)) (subst (λ (x : List ℕ). IsBelow (function (from i lo)) x) (sym (step hi))
                ((monotone (slice_index numbers (i - 1)) here unhalted).each (from i lo) (from i hi) (caps-of (from i hi) followed.corners.within) followed.corners.ordered));
            within = subst (λ (x : List ℕ). IsBelow x p.packing.caps) (sym (step hi)) (closed (from i hi) followed.corners.within);
            low = program-moves count p caps functions (from i lo) low low_after (slice_index numbers (i - 1)) known prepared
                (caps-of (from i lo) lower-within) followed.corners.low lower ∙ ap (packed count p.packing) (sym (step lo));
            high = program-moves count p caps functions (from i hi) high high_after (slice_index numbers (i - 1)) known prepared
                (caps-of (from i hi) followed.corners.within) followed.corners.high upper ∙ ap (packed count p.packing) (sym (step hi));
          };
          many = λ j from_here inside. elim (cases_lt j i) [
            | inl before ↦ (let e : i ≡ suc j = omega arith in subst (λ n. most < length (box_from functions numbers lo hi n)) e many)
            | inr later ↦ followed.many j later inside
          ];
          unhalted = λ j from_here inside. elim (cases_lt j i) [
            | inl before ↦ (let e : i - 1 ≡ j = omega arith in subst (λ n. halts_at halts numbers n ≡ false) e unhalted)
            | inr later ↦ followed.unhalted j later inside
          ];
        }
