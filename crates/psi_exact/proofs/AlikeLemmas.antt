-- States that an event moves alike, as its envelopes tell.
use Rattle.std.specs.Prelude.{◌≡◌, ℕ, zero, suc, ◌+◌, ◌<◌, ◌≤◌, ◌⊎◌, List, [], ◌∷◌, length, slice_index, slice_set, refl}
use Rattle.std.proofs.Common.{inl, inr, ap, sym, ◌∙◌, subst, arith, length-set, get_or-set_same, get_or-set_other}
use Rattle.std.proofs.lemmas.List.{set_past, length-replicate}
use Rattle.std.proofs.lemmas.Grind.{common_steps}
use Rattle.psi_state.specs.State.{Corners, IsBelow, zeros, box}
use Rattle.psi_state.specs.Sets.{image}
use Rattle.psi_state.specs.Hull.{IsTight}
use Rattle.psi_state.specs.Boxes.{IsBetween}
use Rattle.psi_state.proofs.BoxesLemmas.{In-box, set-below, zeros-below, below-itself}
use Rattle.psi_state.proofs.SetsLemmas.{In-image}
use Rattle.psi_event.specs.Law.{IsClosed}
use Rattle.psi_exact.specs.Alike.{IsSpan, AgreeIn, IsOneMove, MovesAlike, IsTop}

-- what a tight box has of an image: each state that the function makes of one of the old box is between its corners
pub image-between : (f : List ℕ → List ℕ) (l h x low high : List ℕ) → IsTight (image f (box l h)) low high → IsBelow l x → IsBelow x h → IsBetween low high (f x)
image-between f l h x low high tight above below = tight.inside (f x) (In-image f x (box l h) (In-box l h x above below))

-- the state of the span's numbers
abbrev pub pick : List ℕ → List ℕ → List ℕ
pick [] x = []
pick (s ∷ ss) [] = []
pick (zero ∷ ss) (v ∷ x) = 0 ∷ pick ss x
pick (suc s ∷ ss) (v ∷ x) = v ∷ pick ss x

length-pick : (span x : List ℕ) → length x ≡ length span → length (pick span x) ≡ length span
length-pick [] x same = refl
length-pick (s ∷ ss) [] same = absurd (omega arith)
length-pick (zero ∷ ss) (v ∷ x) same = ap suc (length-pick ss x (omega arith))
length-pick (suc s ∷ ss) (v ∷ x) same = ap suc (length-pick ss x (omega arith))

pick-there : (span x : List ℕ) (q : ℕ) → length x ≡ length span → 0 < slice_index span q → slice_index (pick span x) q ≡ slice_index x q
pick-there [] x q same some = absurd (omega arith)
pick-there (s ∷ ss) [] q same some = absurd (omega arith)
pick-there (zero ∷ ss) (v ∷ x) zero same some = absurd (omega arith)
pick-there (suc s ∷ ss) (v ∷ x) zero same some = refl
pick-there (zero ∷ ss) (v ∷ x) (suc q) same some = pick-there ss x q (omega arith) some
pick-there (suc s ∷ ss) (v ∷ x) (suc q) same some = pick-there ss x q (omega arith) some

pick-none : (span x : List ℕ) (q : ℕ) → slice_index span q ≡ 0 → slice_index (pick span x) q ≡ 0
pick-none [] x q none = refl
pick-none (s ∷ ss) [] q none = refl
pick-none (zero ∷ ss) (v ∷ x) zero none = refl
pick-none (suc s ∷ ss) (v ∷ x) zero none = absurd (omega arith)
pick-none (zero ∷ ss) (v ∷ x) (suc q) none = pick-none ss x q none
pick-none (suc s ∷ ss) (v ∷ x) (suc q) none = pick-none ss x q none

-- it is within the span
pub pick-below : (caps : List ℕ) (f : List ℕ → List ℕ) (span x : List ℕ) → IsSpan caps f span → IsBelow x caps → IsBelow (pick span x) span
pick-below caps f span x is within = grind (arith, common_steps, length-pick, pick-none, pick-there)

-- where each state of the span has one move, states that agree in it are moved alike
pub alike-moves : (caps : List ℕ) (f : List ℕ → List ℕ) (span : List ℕ) → IsSpan caps f span
    → ((y : List ℕ) → IsBelow y span → IsOneMove caps f span y) → MovesAlike caps f span
alike-moves caps f span is moves = record {
  each = λ x z first second agree.
      (let same = is.same_length in
      let long = first.same_length in
      let one = moves (pick span x) (pick-below caps f span x is first) in
      let own : AgreeIn span x (pick span x) = record { each = λ q small some. sym (pick-there span x q (omega arith) some) } in
      let other : AgreeIn span z (pick span x) = record { each = λ q small some. sym (agree.each q small some) ∙ own.each q small some } in
      one.each x z first second own other);
}

-- a state within the span is one within the capacities
pub below-span : (caps : List ℕ) (f : List ℕ → List ℕ) (span y : List ℕ) → IsSpan caps f span → IsBelow y span → IsBelow y caps
below-span caps f span y is within = grind (arith, common_steps)

-- a state with this number at a place is below the capacities with it there
below-set : (x caps : List ℕ) (q n : ℕ) → IsBelow x caps → slice_index x q ≡ n → IsBelow x (slice_set caps q n)
below-set x caps q n within is = grind (arith, common_steps, length-set, get_or-set_same, get_or-set_other)

-- the box of all states with this number at a place
abbrev pub with_number : List ℕ → ℕ → ℕ → Corners
with_number caps q n = record { lo = slice_set (zeros caps) q n; hi = slice_set caps q n }

-- where its image has no other number there, the number stays
pub stays-each : (caps : List ℕ) (f : List ℕ → List ℕ) (q n : ℕ) (b new : Corners) → IsClosed caps f → q < length caps → b ≡ with_number caps q n
    → IsTight (image f (box b.lo b.hi)) new.lo new.hi → slice_index new.lo q ≡ n → slice_index new.hi q ≡ n
    → (x : List ℕ) → IsBelow x caps → slice_index x q ≡ n → slice_index (f x) q ≡ n
stays-each caps f q n b new closed small is tight low high x within here =
    let low_is : slice_set (zeros caps) q n ≡ b.lo = ap (λ (c : Corners). c.lo) (sym is) in
    let high_is : slice_set caps q n ≡ b.hi = ap (λ (c : Corners). c.hi) (sym is) in
    let above : IsBelow b.lo x = subst (λ (l : List ℕ). IsBelow l x) low_is (set-below (zeros caps) x q n (zeros-below caps x within.same_length) (omega arith)) in
    let below : IsBelow x b.hi = subst (λ (h : List ℕ). IsBelow x h) high_is (below-set x caps q n within here) in
    let between = image-between f b.lo b.hi x new.lo new.hi tight above below in
    let count = (closed.each x within).same_length in
    let same = between.low.same_length in
    let first = between.low.each q (omega arith) in
    let last = between.high.each q (omega arith) in
    omega arith

-- the lower corner of a state's box is below the upper one, and this below the capacities
pub top-above : (caps : List ℕ) (f : List ℕ → List ℕ) (span y top : List ℕ) → IsSpan caps f span → IsBelow y span → IsTop caps span y top → IsBelow y top
top-above caps f span y top is within up = grind (arith, common_steps)

pub top-below : (caps : List ℕ) (f : List ℕ → List ℕ) (span y top : List ℕ) → IsSpan caps f span → IsBelow y span → IsTop caps span y top → IsBelow top caps
top-below caps f span y top is within up = grind (arith, common_steps, below-span)

-- a state that agrees with y in the span is in its box
in-top : (caps : List ℕ) (f : List ℕ → List ℕ) (span y top x : List ℕ) → IsSpan caps f span → IsBelow y span → IsTop caps span y top → IsBelow x caps → AgreeIn span x y
    → IsBetween y top x
in-top caps f span y top x is below up within agree = grind (arith, common_steps)

-- where the image of the box has one number for each queue of the span, its states have one move
pub one-move : (caps : List ℕ) (f : List ℕ → List ℕ) (span y top : List ℕ) (b new : Corners) → IsSpan caps f span → IsClosed caps f → IsBelow y span → IsTop caps span y top
    → b ≡ record { lo = y; hi = top } → IsTight (image f (box b.lo b.hi)) new.lo new.hi
    → ((q : ℕ) → q < length span → 0 < slice_index span q → slice_index new.lo q ≡ slice_index new.hi q) → IsOneMove caps f span y
one-move caps f span y top b new is closed below up is_box tight one = record {
  each = λ x z first second own other.
      (let low_is : y ≡ b.lo = ap (λ (c : Corners). c.lo) (sym is_box) in
      let high_is : top ≡ b.hi = ap (λ (c : Corners). c.hi) (sym is_box) in
      let x_in = in-top caps f span y top x is below up first own in
      let z_in = in-top caps f span y top z is below up second other in
      let to_x = image-between f b.lo b.hi x new.lo new.hi tight (subst (λ (l : List ℕ). IsBelow l x) low_is x_in.low) (subst (λ (h : List ℕ). IsBelow x h) high_is x_in.high) in
      let to_z = image-between f b.lo b.hi z new.lo new.hi tight (subst (λ (l : List ℕ). IsBelow l z) low_is z_in.low) (subst (λ (h : List ℕ). IsBelow z h) high_is z_in.high) in
      let same = is.same_length in
      let count_x = (closed.each x first).same_length in
      let count_z = (closed.each z second).same_length in
      let long_x = to_x.low.same_length in
      let long_z = to_z.low.same_length in
      record {
        each = λ q small some.
            grind (arith, common_steps);
      });
}

-- a place of a list that was written at p
set-next : (xs : List ℕ) (p v q : ℕ) → p < length xs → q < p + 1
    → ((q < p) × (slice_index (slice_set xs p v) q ≡ slice_index xs q)) ⊎ ((q ≡ p) × (slice_index (slice_set xs p v) q ≡ v))
set-next xs p v q small most = grind (arith, common_steps, get_or-set_other, get_or-set_same)

-- so what is so of the numbers up to a place is so of one more
pub set-each : (P : ℕ → ℕ → Type 0) (xs : List ℕ) (p v : ℕ) → p < length xs → ((q : ℕ) → q < p → P q (slice_index xs q)) → P p v
    → (q : ℕ) → q < p + 1 → P q (slice_index (slice_set xs p v) q)
set-each P xs p v small each here q most = elim (set-next xs p v q small most) [
  | inl less ↦ subst (λ n. P q n) (sym less.1) (each q less.0)
  | inr last ↦ subst (λ n. P q n) (sym last.1) (subst (λ k. P k v) (sym last.0) here)
]

-- the image of a state's box has corners of as many numbers as the span
pub one-length : (caps : List ℕ) (f : List ℕ → List ℕ) (span y top : List ℕ) (b new : Corners) → IsSpan caps f span → IsClosed caps f → IsBelow y span → IsTop caps span y top
    → b ≡ record { lo = y; hi = top } → IsTight (image f (box b.lo b.hi)) new.lo new.hi → length new.lo ≡ length span
one-length caps f span y top b new is closed below up is_box tight =
    let own = below-span caps f span y is below in
    let above = top-above caps f span y top is below up in
    let to = image-between f b.lo b.hi y new.lo new.hi tight (subst (λ (c : Corners). IsBelow c.lo y) (sym is_box) (below-itself y)) (subst (λ (c : Corners). IsBelow y c.hi) (sym is_box) above) in
    to.low.same_length ∙ ((closed.each y own).same_length ∙ sym is.same_length)

-- the box of all states, with this number at a place
pub record IsWith (caps : List ℕ) (q n : ℕ) (whole b : Corners) : Type 0 where
  pub count : length whole.lo ≡ length caps
  pub same : b ≡ with_number caps q n

pub whole-with_number : (caps own : List ℕ) (q n : ℕ) (whole b : Corners) → own ≡ caps → whole ≡ record { lo = zeros own; hi = own }
    → b ≡ record { lo = slice_set whole.lo q n; hi = slice_set whole.hi q n } → IsWith caps q n whole b
whole-with_number caps own q n whole b same is made = grind (arith, common_steps, length-replicate)

-- its upper corner is below the capacities
pub with_number-below : (caps : List ℕ) (q n : ℕ) → n ≤ slice_index caps q → IsBelow (slice_set caps q n) caps
with_number-below caps q n small = set-below caps caps q n (below-itself caps) small

-- and the image of the box has corners of as many numbers
pub with_number-length : (caps : List ℕ) (f : List ℕ → List ℕ) (q n : ℕ) (b new : Corners) → IsClosed caps f → n ≤ slice_index caps q → b ≡ with_number caps q n
    → IsTight (image f (box b.lo b.hi)) new.lo new.hi → length new.lo ≡ length caps
with_number-length caps f q n b new closed small is tight =
    let below = with_number-below caps q n small in
    let count : length (slice_set caps q n) ≡ length caps = length-set {A = ℕ} caps q n in
    let low : IsBelow (slice_set (zeros caps) q n) (slice_set caps q n) = both in
    let to = image-between f b.lo b.hi (slice_set caps q n) new.lo new.hi tight
    (subst (λ (c : Corners). IsBelow c.lo (slice_set caps q n)) (sym is) low) (subst (λ (c : Corners). IsBelow (slice_set caps q n) c.hi) (sym is) (below-itself (slice_set caps q n))) in
    to.low.same_length ∙ (closed.each (slice_set caps q n) below).same_length
  where
    low_below : IsBelow (zeros caps) (slice_set caps q n)
    low_below = zeros-below caps (slice_set caps q n) (length-set {A = ℕ} caps q n)

    both : IsBelow (slice_set (zeros caps) q n) (slice_set caps q n)
    both = grind (arith, common_steps, set-below, get_or-set_same, set_past, length-replicate, zeros-below)
