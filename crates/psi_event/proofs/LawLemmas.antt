-- Lemmas. What an event promises: a function on the states of its capacities, and whether it keeps their order.
use Rattle.std.specs.Prelude.{◌≡◌, ℕ, ◌<◌, ◌≤◌, List, length, slice_index, refl}
use Rattle.std.proofs.Common.{sym, subst, ap, ◌∙◌}
use Rattle.psi_state.specs.State.{IsBelow, box}
use Rattle.psi_state.specs.Boxes.{IsBetween}
use Rattle.psi_state.proofs.BoxesLemmas.{In-box, In-of_box, below-itself, below-through}
use Rattle.psi_state.specs.Sets.{image}
use Rattle.psi_state.proofs.SetsLemmas.{In-image, In-of_image}
use Rattle.psi_state.specs.Hull.{IsTight, corners}
use Rattle.psi_state.proofs.HullLemmas.{corners-from_tight}
use Rattle.psi_event.specs.Law.{IsClosed, IsMonotone}

-- a box is tight around the image of another where the image of each of its states lies inside and each end is the value of one of them
pub tight-by : (f : List ℕ → List ℕ) (l h u w : List ℕ) → ((x : List ℕ) → IsBetween l h x → IsBetween u w (f x))
    → ((i : ℕ) → i < length u → (x : List ℕ) × IsBetween l h x × (slice_index (f x) i ≡ slice_index u i))
    → ((i : ℕ) → i < length w → (x : List ℕ) × IsBetween l h x × (slice_index (f x) i ≡ slice_index w i))
    → IsTight (image f (box l h)) u w
tight-by f l h u w inside low high = record {
  inside = λ z member. (let from = In-of_image f z (box l h) member in
      subst (λ (y : List ℕ). IsBetween u w y) (sym from.2) (inside from.0 (In-of_box l h from.0 from.1)));
  low = λ i small. (let found = low i small in
      (f found.0, In-image f found.0 (box l h) (In-box l h found.0 found.1.low found.1.high), found.2));
  high = λ i small. (let found = high i small in
      (f found.0, In-image f found.0 (box l h) (In-box l h found.0 found.1.low found.1.high), found.2));
}

-- where the function is monotone, the tight box around the image of a box goes from the image of its lower corner to that of its upper corner
pub monotone-tight : (caps : List ℕ) (f : List ℕ → List ℕ) (l h : List ℕ) → IsMonotone caps f → IsBelow l h → IsBelow h caps
    → IsTight (image f (box l h)) (f l) (f h)
monotone-tight caps f l h mono ordered within =
    tight-by f l h (f l) (f h)
    (λ x between. record { low = mono.each l x (below-through x h caps between.high within) between.low; high = mono.each x h within between.high })
    (λ i small. (l, record { low = below-itself l; high = ordered }, refl))
    (λ i small. (h, record { low = ordered; high = below-itself h }, refl))

-- a tight box around the image of a box is the hull of that image
pub tight-corners : (f : List ℕ → List ℕ) (l h u w : List ℕ) → IsBelow l h → IsTight (image f (box l h)) u w
    → corners (image f (box l h)) ≡ record { lo = u; hi = w }
tight-corners f l h u w ordered tight =
    corners-from_tight (f l) (image f (box l h)) u w (In-image f l (box l h) (In-box l h l (below-itself l) ordered)) tight

-- where the function is monotone, the hull of the image of a box goes from the image of its lower corner to that of its upper corner
pub monotone-corners : (caps : List ℕ) (f : List ℕ → List ℕ) (l h : List ℕ) → IsMonotone caps f → IsBelow l h → IsBelow h caps
    → corners (image f (box l h)) ≡ record { lo = f l; hi = f h }
monotone-corners caps f l h mono ordered within = tight-corners f l h (f l) (f h) ordered (monotone-tight caps f l h mono ordered within)

-- a box that is tight around what a closed function makes of states of the capacities is within the capacities
pub tight-within : (caps : List ℕ) (f : List ℕ → List ℕ) (l h u w : List ℕ) → IsClosed caps f → IsBelow l h → IsBelow h caps
    → IsTight (image f (box l h)) u w → IsBelow w caps
tight-within caps f l h u w closed ordered within tight =
    let first : IsBetween u w (f l) = tight.inside (f l) (In-image f l (box l h) (In-box l h l (below-itself l) ordered)) in
    let same : length w ≡ length caps = sym first.high.same_length ∙ (closed.each l (below-through l h caps ordered within)).same_length in
    record {
      same_length = same;
      each = λ i small. (let found = tight.high i small in
          let from = In-of_image f found.0 (box l h) found.1 in
          let between : IsBetween l h from.0 = In-of_box l h from.0 from.1 in
          let below : IsBelow (f from.0) caps = closed.each from.0 (below-through from.0 h caps between.high within) in
          subst (λ (n : ℕ). n ≤ slice_index caps i) (ap (λ (y : List ℕ). slice_index y i) (sym from.2) ∙ found.2) (below.each i (subst (λ (n : ℕ). i < n) (same ∙ sym below.same_length) small)));
    }
