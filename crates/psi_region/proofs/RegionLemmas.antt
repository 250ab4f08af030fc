-- What a step makes of a region: it keeps the order of regions and has what the event makes of each state.
use Rattle.std.specs.Prelude.{◌≡◌, ℕ, ◌≤◌, List, length, Bool, true, false, nat_le, refl}
use Rattle.std.proofs.Common.{inl, inr, ap, sym, ◌∙◌, subst, arith}
use Rattle.std.proofs.lemmas.Bool.{cases_Bool, true≢false, or_cases, or_parts, or_left, or_right, leb-true, le-leb}
use Rattle.psi_state.specs.State.{IsBelow, zeros}
use Rattle.psi_state.specs.Members.{In, AreAmong}
use Rattle.psi_state.specs.Sets.{image}
use Rattle.psi_state.proofs.SetsLemmas.{In-image, In-of_image}
use Rattle.psi_state.specs.Boxes.{IsBetween}
use Rattle.psi_state.proofs.BoxesLemmas.{In-box, In-of_box, In-of_all_states, below-through, zeros-below}
use Rattle.psi_state.specs.Hull.{lows, highs, hull, HaveLength, IsTight}
use Rattle.psi_state.proofs.HullLemmas.{corners-tight}
use Rattle.psi_state.proofs.StatesLemmas.{In-caps}
use Rattle.psi_state.specs.Ascending.{IsRising}
use Rattle.psi_state.proofs.AscendingLemmas.{box-rising, image-rising, image-identity, rising-distinct, length-among}
use Rattle.psi_event.specs.Law.{IsClosed}
use Rattle.psi_region.specs.Region.{Area, start, splits, settled, next, step, IsArea, IsWithin}

-- a list's states are in its hull
pub In-hull : (n : ℕ) (x : List ℕ) (xs : List (List ℕ)) → HaveLength n xs → In x xs → In x (hull xs)
unfolding hull
In-hull n x xs lengths member =
    let between : IsBetween (lows xs) (highs xs) x = (corners-tight n x xs lengths member).inside x member in
    In-box (lows xs) (highs xs) x between.low between.high

-- what lies between two corners has its tight box there
pub tight-low : (z : List ℕ) (xs : List (List ℕ)) (l h u w : List ℕ) → IsTight xs u w → In z xs → ((x : List ℕ) → In x xs → IsBetween l h x) → IsBelow l u
tight-low z xs l h u w tight member each =
    let count : length l ≡ length u = (each z member).low.same_length ∙ sym ((tight.inside z member).low.same_length) in
    record {
      same_length = count;
      each = λ i small. (let at = tight.low i (omega arith) in omega (arith, at.2, (each at.0 at.1).low.each i small));
    }

pub tight-high : (z : List ℕ) (xs : List (List ℕ)) (l h u w : List ℕ) → IsTight xs u w → In z xs → ((x : List ℕ) → In x xs → IsBetween l h x) → IsBelow w h
tight-high z xs l h u w tight member each = record {
  same_length = sym ((tight.inside z member).high.same_length) ∙ (each z member).high.same_length;
  each = λ i small.
      (let at = tight.high i small in
      let inner = tight.inside at.0 at.1 in
      omega (arith, at.2, (each at.0 at.1).high.each i (omega (arith, inner.high.same_length))));
}

-- and its hull
pub hull-between : (n : ℕ) (z : List ℕ) (xs : List (List ℕ)) (l h : List ℕ) → HaveLength n xs → In z xs → ((x : List ℕ) → In x xs → IsBetween l h x)
    → (x : List ℕ) → In x (hull xs) → IsBetween l h x
unfolding hull
hull-between n z xs l h lengths member each x found =
    let tight = corners-tight n z xs lengths member in
    let between : IsBetween (lows xs) (highs xs) x = In-of_box (lows xs) (highs xs) x found in
    record {
      low = below-through l (lows xs) x (tight-low z xs l h (lows xs) (highs xs) tight member each) between.low;
      high = below-through x (highs xs) h between.high (tight-high z xs l h (lows xs) (highs xs) tight member each);
    }

-- the hull of fewer states is smaller
pub hull-among : (n : ℕ) (z : List ℕ) (xs ys : List (List ℕ)) → HaveLength n xs → HaveLength n ys → In z xs → AreAmong xs ys → AreAmong (hull xs) (hull ys)
unfolding hull
hull-among n z xs ys lengths more member among = record {
  each = λ x found.
      (let tight = corners-tight n z ys more (among.each z member) in
      let between = hull-between n z xs (lows ys) (highs ys) lengths member (λ y here. tight.inside y (among.each y here)) x found in
      In-box (lows ys) (highs ys) x between.low between.high);
}

-- the image of states within the capacities is within them, where the function makes states of states
pub image-within : (caps : List ℕ) (f : List ℕ → List ℕ) (xs : List (List ℕ)) → IsClosed caps f → ((x : List ℕ) → In x xs → IsBelow x caps)
    → (z : List ℕ) → In z (image f xs) → IsBelow z caps
image-within caps f xs closed within z member =
    let found = In-of_image f z xs member in
    subst (λ (y : List ℕ). IsBelow y caps) (sym found.2) (closed.each found.0 (within found.0 found.1))

pub image-length : (caps : List ℕ) (f : List ℕ → List ℕ) (xs : List (List ℕ)) → IsClosed caps f → ((x : List ℕ) → In x xs → IsBelow x caps)
    → HaveLength (length caps) (image f xs)
image-length caps f xs closed within = record { each = λ z member. (image-within caps f xs closed within z member).same_length }

pub image-among : (f : List ℕ → List ℕ) (xs ys : List (List ℕ)) → AreAmong xs ys → AreAmong (image f xs) (image f ys)
image-among f xs ys among = record {
  each = λ z member. (let found = In-of_image f z xs member in
      subst (λ (y : List ℕ). In y (image f ys)) (sym found.2) (In-image f found.0 ys (among.each found.0 found.1)));
}

-- the run begins with a region
pub start-area : (caps : List ℕ) → IsArea caps (start caps)
start-area caps = record {
  some = (caps, In-caps caps);
  rising = box-rising (zeros caps) caps;
  within = λ x member. In-of_all_states caps x member;
}

pub hull-rising : (xs : List (List ℕ)) → IsRising (hull xs)
unfolding hull
hull-rising xs = box-rising (lows xs) (highs xs)

next-area : (caps : List ℕ) (f : List ℕ → List ℕ) (xs : List (List ℕ)) (z : List ℕ) (b : Bool) → IsClosed caps f → In z xs
    → ((x : List ℕ) → In x xs → IsBelow x caps) → IsArea caps (next b f xs)
next-area caps f xs z true closed member within = record {
  some = (f z, In-image f z xs member);
  rising = image-rising f xs;
  within = image-within caps f xs closed within;
}
next-area caps f xs z false closed member within = record {
  some = (f z, In-hull (length caps) (f z) (image f xs) (image-length caps f xs closed within) (In-image f z xs member));
  rising = hull-rising (image f xs);
  within = λ x found. (hull-between (length caps) (f z) (image f xs) (zeros caps) caps (image-length caps f xs closed within) (In-image f z xs member)
      (λ y here. (let below = image-within caps f xs closed within y here in record { low = zeros-below caps y below.same_length; high = below })) x found).high;
}

-- and each step makes a region of a region
pub step-area : (split : ℕ) (caps : List ℕ) (f : List ℕ → List ℕ) (a : Area) → IsClosed caps f → IsArea caps a → IsArea caps (step split f a)
unfolding step
step-area split caps f a closed is = next-area caps f a.states is.some.0 (splits split a) closed is.some.1 is.within

-- a smaller region splits no later: it has no more states
pub splits-sooner : (split : ℕ) (a b : Area) → IsRising a.states → IsWithin a b → splits split b ≡ true → splits split a ≡ true
splits-sooner split a b rising within is =
    elim (or_cases b.is_split (nat_le (length b.states) split) is) [
      | inl already ↦ or_left a.is_split (nat_le (length a.states) split) (within.split already)
      | inr few ↦ (let more : length b.states ≤ split = leb-true (length b.states) split few in
          let fewer : length a.states ≤ length b.states = length-among a.states b.states (rising-distinct a.states rising) within.states in
          or_right a.is_split (nat_le (length a.states) split) (le-leb (length a.states) split (omega arith)))
    ]

next-within : (caps : List ℕ) (f : List ℕ → List ℕ) (a b : Area) (p q : Bool) → (q ≡ true → p ≡ true) → IsClosed caps f → IsArea caps a → IsArea caps b
    → IsWithin a b → IsWithin (next p f a.states) (next q f b.states)
next-within caps f a b true true sooner closed first second within = record {
  states = image-among f a.states b.states within.states;
  split = λ is. refl;
}
next-within caps f a b true false sooner closed first second within = record {
  states = record {
    each = λ x member. In-hull (length caps) x (image f b.states) (image-length caps f b.states closed second.within)
        ((image-among f a.states b.states within.states).each x member);
  };
  split = λ is. refl;
}
next-within caps f a b false true sooner closed first second within = absurd (true≢false (sym (sooner refl)))
next-within caps f a b false false sooner closed first second within = record {
  states = hull-among (length caps) (f first.some.0) (image f a.states) (image f b.states) (image-length caps f a.states closed first.within)
      (image-length caps f b.states closed second.within) (In-image f first.some.0 a.states first.some.1) (image-among f a.states b.states within.states);
  split = λ is. is;
}

-- a step keeps the order of regions
pub step-within : (split : ℕ) (caps : List ℕ) (f : List ℕ → List ℕ) (a b : Area) → IsClosed caps f → IsArea caps a → IsArea caps b → IsWithin a b
    → IsWithin (step split f a) (step split f b)
unfolding step
step-within split caps f a b closed first second within =
    next-within caps f a b (splits split a) (splits split b) (splits-sooner split a b first.rising within) closed first second within

-- each region is within the one that the run begins with
pub within-start : (caps : List ℕ) (a : Area) → IsArea caps a → IsWithin a (start caps)
within-start caps a is = record {
  states = record { each = λ x member. (let below = is.within x member in In-box (zeros caps) caps x (zeros-below caps x below.same_length) below) };
  split = λ split. absurd (true≢false (sym split));
}

-- a step's region has what the event makes of each state
next-has : (caps : List ℕ) (f : List ℕ → List ℕ) (xs : List (List ℕ)) (b : Bool) (x : List ℕ) → IsClosed caps f → ((y : List ℕ) → In y xs → IsBelow y caps)
    → In x xs → In (f x) (next b f xs).states
next-has caps f xs true x closed within member = In-image f x xs member
next-has caps f xs false x closed within member =
    In-hull (length caps) (f x) (image f xs) (image-length caps f xs closed within) (In-image f x xs member)

pub step-has : (split : ℕ) (caps : List ℕ) (f : List ℕ → List ℕ) (a : Area) (x : List ℕ) → IsClosed caps f → IsArea caps a → In x a.states
    → In (f x) (step split f a).states
unfolding step
step-has split caps f a x closed is member = next-has caps f a.states (splits split a) x closed is.within member

-- a step of a region that is split, or has few states, is the image
pub step-split : (split : ℕ) (f : List ℕ → List ℕ) (a : Area) → splits split a ≡ true → step split f a ≡ record { is_split = true; states = image f a.states }
unfolding step
step-split split f a is = ap (λ b. next b f a.states) is

-- and otherwise the hull of the image
pub step-box : (split : ℕ) (f : List ℕ → List ℕ) (a : Area) → splits split a ≡ false → step split f a ≡ record { is_split = false; states = hull (image f a.states) }
unfolding step
step-box split f a is = ap (λ b. next b f a.states) is

abbrev area : Bool → List (List ℕ) → Area
area s xs = record { is_split = s; states = xs }

-- a step that changes no state only splits a region of few states, where an unsplit one is its own hull
pub rested : (split : ℕ) (a : Area) → IsRising a.states → (a.is_split ≡ false → hull a.states ≡ a.states) → step split (λ (x : List ℕ). x) a ≡ settled split a
rested split a rising own = elim (cases_Bool (splits split a)) [
  | inl few ↦ (step-split split (λ (x : List ℕ). x) a few ∙ ap (λ (xs : List (List ℕ)). area true xs) (image-identity a.states rising)
      ∙ ap (λ s. area s a.states) (sym few))
  | inr many ↦ (step-box split (λ (x : List ℕ). x) a many
      ∙ ap (λ (xs : List (List ℕ)). area false xs) (ap (λ (xs : List (List ℕ)). hull xs) (image-identity a.states rising)
      ∙ own (or_parts a.is_split (nat_le (length a.states) split) many).0)
      ∙ ap (λ s. area s a.states) (sym many))
]
