-- The step of an odometer gives the state that follows in a box's list: the last place that isn't at its greatest
-- number is raised by one, and all places after it, which are, go back to their least.
use Rattle.std.specs.Prelude.{◌≡◌, ℕ, zero, suc, ◌-◌, ◌<◌, ◌≤◌, List, [], ◌∷◌, length, slice_index, slice_set, refl}
use Rattle.std.proofs.Common.{sym, ◌∙◌, arith}
use Rattle.std.proofs.lemmas.List.{ext_get_or, get_or-set_same, get_or-set_other, length-set}
use Rattle.psi_state.specs.State.{IsBelow}
use Rattle.psi_state.specs.Boxes.{IsBetween}
use Rattle.psi_state.proofs.BoxesLemmas.{below-tail}
use Rattle.psi_state.specs.Listing.{onward}
use Rattle.psi_state.proofs.ListingLemmas.{onward-low, onward-high}

-- the places from n on are at their greatest numbers in x, and back at their least in y; the others are the same in both
pub record IsTurned (l h x y : List ℕ) (n : ℕ) : Type 0 where
  pub same_length : length y ≡ length x
  pub front : (i : ℕ) → i < n → slice_index y i ≡ slice_index x i
  pub full : (i : ℕ) → n ≤ i → i < length x → slice_index x i ≡ slice_index h i
  pub back : (i : ℕ) → n ≤ i → i < length x → slice_index y i ≡ slice_index l i

-- y is x with the place i raised by one and the places after it back at their least numbers; in x these are at their greatest
pub record IsRaised (l h x y : List ℕ) (i : ℕ) : Type 0 where
  pub same_length : length y ≡ length x
  pub front : (k : ℕ) → k < i → slice_index y k ≡ slice_index x k
  pub here : slice_index y i ≡ suc (slice_index x i)
  pub full : (k : ℕ) → i < k → k < length x → slice_index x k ≡ slice_index h k
  pub back : (k : ℕ) → i < k → k < length x → slice_index y k ≡ slice_index l k

raised-tail : (j k v w : ℕ) (l h x y : List ℕ) (i : ℕ) → IsRaised (j ∷ l) (k ∷ h) (v ∷ x) (w ∷ y) (suc i) → IsRaised l h x y i
raised-tail j k v w l h x y i raised = record {
  same_length = (let e : suc (length y) ≡ suc (length x) = raised.same_length in omega arith);
  front = λ n small. raised.front (suc n) (omega arith);
  here = raised.here;
  full = λ n past small. raised.full (suc n) (omega arith) (omega arith);
  back = λ n past small. raised.back (suc n) (omega arith) (omega arith);
}

-- the list from x on has x, and then is the list from the raised state on
pub onward-raised : (l h x y : List ℕ) (i : ℕ) → IsBetween l h x → i < length x → slice_index x i < slice_index h i → IsRaised l h x y i
    → onward l h x ≡ x ∷ onward l h y
onward-raised l h [] y i between small room raised = absurd (omega arith)
onward-raised [] h (v ∷ x) y i between small room raised = absurd (let e : 0 ≡ suc (length x) = between.low.same_length in omega arith)
onward-raised (j ∷ l) [] (v ∷ x) y i between small room raised = absurd (let e : suc (length x) ≡ 0 = between.high.same_length in omega arith)
onward-raised (j ∷ l) (k ∷ h) (v ∷ x) [] i between small room raised = absurd (let e : 0 ≡ suc (length x) = raised.same_length in omega arith)
onward-raised (j ∷ l) (k ∷ h) (v ∷ x) (w ∷ y) zero between small room raised =
    let low = below-tail j l v x between.low in
    let high = below-tail v x k h between.high in
    let count : suc (length y) ≡ suc (length x) = raised.same_length in
    let number : w ≡ suc v = raised.here in
    let width : k - v ≡ suc (k - suc v) = omega arith in
    let same_low : length l ≡ length x = low.same_length in
    let same_high : length x ≡ length h = high.same_length in
    let top : x ≡ h = ext_get_or 0 x h same_high (λ n within. raised.full (suc n) (omega arith) (omega arith)) in
    let bottom : y ≡ l = ext_get_or 0 y l (omega arith) (λ n within. raised.back (suc n) (omega arith) (omega arith)) in
    let ordered : IsBelow l h = rw top at low in
    rw (top, bottom, number, onward-high l h ordered, onward-low l h ordered, width) refl
onward-raised (j ∷ l) (k ∷ h) (v ∷ x) (w ∷ y) (suc i) between small room raised =
    let rest = onward-raised l h x y i
    (record { low = below-tail j l v x between.low; high = below-tail v x k h between.high }) (omega arith) room
    (raised-tail j k v w l h x y i raised) in
    let number : w ≡ v = raised.front 0 (omega arith) in
    rw (number, rest) refl

raised-from_turned : (l h x y : List ℕ) (n v : ℕ) → 0 < n → n ≤ length x → v ≡ suc (slice_index x (n - 1)) → IsTurned l h x y n
    → IsRaised l h x (slice_set y (n - 1) v) (n - 1)
raised-from_turned l h x y n v some few is turned =
    let count : length x ≡ length y = sym turned.same_length in
    record {
      same_length = length-set y (n - 1) v ∙ turned.same_length;
      front = λ i small. (let ne : i ≡ n - 1 → ⊥ = λ e. omega arith in
          let other : slice_index (slice_set y (n - 1) v) i ≡ slice_index y i = get_or-set_other y (n - 1) i v 0 ne in
          other ∙ turned.front i (omega arith));
      here = get_or-set_same y (n - 1) v 0 (omega arith) ∙ is;
      full = λ i past small. turned.full i (omega arith) small;
      back = λ i past small. (let ne : i ≡ n - 1 → ⊥ = λ e. omega arith in
          let other : slice_index (slice_set y (n - 1) v) i ≡ slice_index y i = get_or-set_other y (n - 1) i v 0 ne in
          other ∙ turned.back i (omega arith) small);
    }

-- where a place has room, the odometer stops there: the state that it shows is the next
pub turned-raised : (l h x y : List ℕ) (n v : ℕ) → IsBetween l h x → 0 < n → n ≤ length x → slice_index x (n - 1) < slice_index h (n - 1)
    → v ≡ suc (slice_index x (n - 1)) → IsTurned l h x y n → onward l h x ≡ x ∷ onward l h (slice_set y (n - 1) v)
turned-raised l h x y n v between some few room is turned =
    onward-raised l h x (slice_set y (n - 1) v) (n - 1) between (omega arith) room (raised-from_turned l h x y n v some few is turned)

-- where no place has room, the state was the last
pub turned-last : (l h x y : List ℕ) → IsBetween l h x → IsTurned l h x y 0 → onward l h x ≡ x ∷ []
turned-last l h x y between turned =
    let top : x ≡ h = ext_get_or 0 x h between.high.same_length (λ i small. turned.full i (omega arith) small) in
    rw top (onward-high l h (rw top at between.low))
