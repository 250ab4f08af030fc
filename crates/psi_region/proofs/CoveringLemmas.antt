-- A box holds an image exactly where the tight box around that image lies in it.
use Rattle.std.specs.Prelude.{◌≡◌, ℕ, List, length}
use Rattle.std.proofs.Common.{sym, ◌∙◌, subst}
use Rattle.psi_state.specs.State.{IsBelow, box}
use Rattle.psi_state.specs.Members.{In, AreAmong}
use Rattle.psi_state.specs.Sets.{image}
use Rattle.psi_state.proofs.SetsLemmas.{In-image, In-of_image}
use Rattle.psi_state.specs.Boxes.{IsBetween}
use Rattle.psi_state.proofs.BoxesLemmas.{In-box, In-of_box, AreAmong-box}
use Rattle.psi_state.specs.Hull.{IsTight}
use Rattle.psi_event.specs.Law.{IsClosed}
use Rattle.psi_region.specs.Covering.{Covers}
use Rattle.psi_region.proofs.RegionLemmas.{tight-low, tight-high}

-- a tight box around the image lies in another box exactly where that one holds the image
pub covers-from_tight : (f : List ℕ → List ℕ) (xs : List (List ℕ)) (u w m k : List ℕ) → IsTight (image f xs) u w → AreAmong (box u w) (box m k) → Covers f xs (box m k)
covers-from_tight f xs u w m k tight among = record {
  each = λ x member. (let between : IsBetween u w (f x) = tight.inside (f x) (In-image f x xs member) in
      among.each (f x) (In-box u w (f x) between.low between.high));
}

pub tight-from_covers : (f : List ℕ → List ℕ) (z : List ℕ) (xs : List (List ℕ)) (u w m k : List ℕ) → IsTight (image f xs) u w → In z xs → Covers f xs (box m k)
    → AreAmong (box u w) (box m k)
tight-from_covers f z xs u w m k tight member covers =
    let each : (x : List ℕ) → In x (image f xs) → IsBetween m k x = λ x there.
    (let found = In-of_image f x xs there in
    subst (λ (y : List ℕ). IsBetween m k y) (sym found.2) (In-of_box m k (f found.0) (covers.each found.0 found.1))) in
    AreAmong-box u w m k (tight-low (f z) (image f xs) m k u w tight (In-image f z xs member) each)
    (tight-high (f z) (image f xs) m k u w tight (In-image f z xs member) each)

-- a tight box around an image has as many places as the capacities
pub length-tight : (caps : List ℕ) (f : List ℕ → List ℕ) (z : List ℕ) (xs : List (List ℕ)) (u w : List ℕ) → IsClosed caps f → IsTight (image f xs) u w → In z xs
    → IsBelow z caps → length u ≡ length caps
length-tight caps f z xs u w closed tight member within =
    (tight.inside (f z) (In-image f z xs member)).low.same_length ∙ (closed.each z within).same_length
