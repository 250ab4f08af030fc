-- What the two ways in which a region is held say of its states.
use Rattle.std.proofs.Common.{◌≡◌, ℕ, ◌≤◌, List, [], ◌∷◌, ◌++◌, length, Option, Some, None, Bool, true, false, refl, inl, inr, ap, sym, ◌∙◌, subst, arith, append_assoc}
use Rattle.std.specs.Ordering.{match_ordering, ordering_reverse}
use Rattle.std.specs.declared.cmp.Ordering.TheVariants.{Less, Greater}
use Rattle.std.proofs.lemmas.Bool.{true≢false}
use Rattle.std.proofs.lemmas.Cmp.{nat_list_cmp_total}
use Rattle.psi_state.specs.State.{Corners, IsBelow, box}
use Rattle.psi_state.specs.Members.{In}
use Rattle.psi_state.proofs.MembersLemmas.{In-append_right}
use Rattle.psi_state.specs.Sets.{state_cmp, insert_state, single, image}
use Rattle.psi_state.proofs.SetsLemmas.{In-image}
use Rattle.psi_state.proofs.BoxesLemmas.{In-low, In-high, below-through}
use Rattle.psi_state.proofs.StatesLemmas.{single-box, single-box_apart, hull-box}
use Rattle.psi_state.specs.Ascending.{IsRising}
use Rattle.psi_state.proofs.AscendingLemmas.{box-rising, image-rising}
use Rattle.psi_state.specs.Hull.{corners, hull, IsTight}
use Rattle.psi_pool.specs.Pooled.{Pooled}
use Rattle.psi_region.specs.Region.{Area, Regional, settled, next, step}
use Rattle.psi_region.specs.Followed.{IsOne}
use Rattle.psi_region.specs.Inner.RegionKept.{area_of, IsHeld}
use Rattle.psi_region.proofs.RegionLemmas.{rested}

-- the states of an unsplit region are those of its box
pub states-unsplit : (split : ℕ) (is_split : Bool) (b : Corners) (xs : List (List ℕ)) (now : Regional) → record { split = split; area = area_of is_split b xs } ≡ now
    → is_split ≡ false → now.area.states ≡ box b.lo b.hi
states-unsplit split is_split b xs now is no_split =
    ap (λ (r : Regional). r.area.states) (sym is) ∙ ap (λ s. (area_of s b xs).states) no_split

-- an unsplit region has one state exactly where its corners are one
pub single-one : (b : Corners) (lo hi : List ℕ) (xs : List (List ℕ)) (o : Option (List ℕ)) → IsBelow b.lo b.hi → xs ≡ box b.lo b.hi → lo ≡ b.lo → hi ≡ b.hi
    → IsOne lo hi o → o ≡ single xs
single-one b lo hi xs None ordered is low high apart =
    sym (ap (λ (ys : List (List ℕ)). single ys) is ∙ single-box_apart b.lo b.hi ordered (λ e. apart (low ∙ (e ∙ sym high))))
single-one b lo hi xs (Some s) ordered is low high met =
    let at : box b.lo b.hi ≡ box s s = ap (λ (y : List ℕ). box y b.hi) (sym (met.0 ∙ low)) ∙ ap (λ (y : List ℕ). box s y) (sym (met.1 ∙ high)) in
    sym (ap (λ (ys : List (List ℕ)). single ys) (is ∙ at) ∙ single-box s)

-- a list with two different members has at least two
pub length-apart : {A : Type 0} (xs : List A) (x y : A) → In x xs → In y xs → (x ≡ y → ⊥) → 2 ≤ length xs
length-apart [] x y first second apart = absurd first
length-apart (z ∷ []) x y first second apart =
    elim first [ inl e ↦ elim second [ inl d ↦ absurd (apart (e ∙ sym d)) | inr none ↦ absurd none ] | inr none ↦ absurd none ]
length-apart (z ∷ w ∷ xs) x y first second apart = omega arith

pub two-unsplit : (b : Corners) (lo hi : List ℕ) (xs : List (List ℕ)) (o : Option (List ℕ)) → IsBelow b.lo b.hi → xs ≡ box b.lo b.hi → lo ≡ b.lo → hi ≡ b.hi
    → IsOne lo hi o → o ≡ None → 2 ≤ length xs
two-unsplit b lo hi xs None ordered is low high apart none =
    subst (λ (ys : List (List ℕ)). 2 ≤ length ys) (sym is)
    (length-apart (box b.lo b.hi) b.lo b.hi (In-low b.lo b.hi ordered) (In-high b.lo b.hi ordered) (λ e. apart (low ∙ (e ∙ sym high))))
two-unsplit b lo hi xs (Some s) ordered is low high met none = absurd cc

cmp-turned : (x y : List ℕ) → state_cmp y x ≡ Less → state_cmp x y ≡ Greater
cmp-turned x y less = nat_list_cmp_total.antisymm x y ∙ ap ordering_reverse less

-- the next state of an ascending list goes to the end of those before it
pub insert_state-next : (xs : List (List ℕ)) (x : List ℕ) (rest : List (List ℕ)) → IsRising (xs ++ x ∷ rest) → insert_state x xs ≡ xs ++ x ∷ []
insert_state-next [] x rest rising = refl
insert_state-next (y ∷ ys) x rest rising =
    let greater : state_cmp x y ≡ Greater = cmp-turned x y (rising.0 x (In-append_right x ys (x ∷ rest) (inl refl))) in
    ap (λ o. match_ordering o (x ∷ y ∷ ys) (y ∷ ys) (y ∷ insert_state x ys)) greater
    ∙ ap (λ (zs : List (List ℕ)). y ∷ zs) (insert_state-next ys x rest rising.1)

pub filled-next : (l h : List ℕ) (xs : List (List ℕ)) (x : List ℕ) (whole rest more : List (List ℕ)) → xs ++ whole ≡ box l h → whole ≡ x ∷ rest
    → more ≡ insert_state x xs → more ++ rest ≡ box l h
filled-next l h xs x whole rest more is step made =
    let from : xs ++ x ∷ rest ≡ box l h = ap (λ (ys : List (List ℕ)). xs ++ ys) (sym step) ∙ is in
    let rising : IsRising (xs ++ x ∷ rest) = subst (λ (ys : List (List ℕ)). IsRising ys) (sym from) (box-rising l h) in
    ap (λ (ys : List (List ℕ)). ys ++ rest) (made ∙ insert_state-next xs x rest rising) ∙ (append_assoc xs (x ∷ []) rest ∙ from)

-- what the two ways of being held say when they go on
pub held-split : (split : ℕ) (is_split : Bool) (b : Corners) (old new : Pooled) → IsHeld split is_split b old → new.most ≡ old.most → new.states ≡ box b.lo b.hi → IsHeld split true b new
held-split split is_split b old new held same filled = record {
  room = same ∙ held.room;
  empty = λ e. absurd (true≢false e);
  some = λ e. (b.lo, subst (λ (xs : List (List ℕ)). In b.lo xs) (sym filled) (In-low b.lo b.hi held.ordered));
  ordered = held.ordered;
  rising = subst (λ (xs : List (List ℕ)). IsRising xs) (sym filled) (box-rising b.lo b.hi);
}

pub held-image : (split : ℕ) (is_split : Bool) (b : Corners) (old new : Pooled) (f : List ℕ → List ℕ) → IsHeld split is_split b old → is_split ≡ true → new.most ≡ old.most
    → new.states ≡ image f old.states → IsHeld split is_split b new
held-image split is_split b old new f held is same made = record {
  room = same ∙ held.room;
  empty = λ e. absurd (true≢false (sym is ∙ e));
  some = λ e. (let member = held.some e in
      (f member.0, subst (λ (xs : List (List ℕ)). In (f member.0) xs) (sym made) (In-image f member.0 old.states member.1)));
  ordered = held.ordered;
  rising = subst (λ (xs : List (List ℕ)). IsRising xs) (sym made) (image-rising f old.states);
}

-- a box around the image of one that is in order is in order, too
pub held-box : (split : ℕ) (is_split : Bool) (old new : Corners) (pool : Pooled) (f : List ℕ → List ℕ) → IsHeld split is_split old pool
    → IsTight (image f (box old.lo old.hi)) new.lo new.hi → IsHeld split is_split new pool
held-box split is_split old new pool f held tight =
    let inside = tight.inside (f old.lo) (In-image f old.lo (box old.lo old.hi) (In-low old.lo old.hi held.ordered)) in
    record {
      room = held.room;
      empty = held.empty;
      some = held.some;
      ordered = below-through new.lo (f old.lo) new.hi inside.low inside.high;
      rising = held.rising;
    }

-- a region is settled as it is held
settled-as : (old now : Regional) (split : ℕ) (is_split s : Bool) (b : Corners) (xs : List (List ℕ)) → now.area ≡ settled old.split old.area
    → record { split = split; area = area_of is_split b xs } ≡ now → is_split ≡ s → settled old.split old.area ≡ area_of s b xs
settled-as old now split is_split s b xs settles held is = sym settles ∙ (ap (λ (r : Regional). r.area) (sym held) ∙ ap (λ t. area_of t b xs) is)

-- a step of a region that is held as a set
pub stepped-split : (f : List ℕ → List ℕ) (old now : Regional) (split : ℕ) (is_split : Bool) (b : Corners) (xs ys : List (List ℕ))
    → now.area ≡ settled old.split old.area → record { split = split; area = area_of is_split b xs } ≡ now → is_split ≡ true → ys ≡ image f xs
    → area_of is_split b ys ≡ step old.split f old.area
unfolding step
stepped-split f old now split is_split b xs ys settles held is made =
    ap (λ s. area_of s b ys) is ∙ (ap (λ (zs : List (List ℕ)). area_of true b zs) made
    ∙ sym (ap (λ (a : Area). next a.is_split f a.states) (settled-as old now split is_split true b xs settles held is)))

-- and of one that is held as a box
pub stepped-box : (f : List ℕ → List ℕ) (old now : Regional) (split : ℕ) (is_split : Bool) (b made : Corners) (xs : List (List ℕ))
    → now.area ≡ settled old.split old.area → record { split = split; area = area_of is_split b xs } ≡ now → is_split ≡ false → made ≡ corners (image f (box b.lo b.hi))
    → area_of is_split made xs ≡ step old.split f old.area
unfolding step hull
stepped-box f old now split is_split b made xs settles held is envelope =
    ap (λ s. area_of s made xs) is ∙ (ap (λ (c : Corners). area_of false c xs) envelope
    ∙ sym (ap (λ (a : Area). next a.is_split f a.states) (settled-as old now split is_split false b xs settles held is)))

-- the greatest state of a box that the region has is within the capacities
pub high-within : (caps : List ℕ) (old now : Regional) (split : ℕ) (is_split : Bool) (b : Corners) (xs : List (List ℕ)) → ((x : List ℕ) → In x old.area.states → IsBelow x caps)
    → now.area ≡ settled old.split old.area → record { split = split; area = area_of is_split b xs } ≡ now → is_split ≡ false → IsBelow b.lo b.hi → IsBelow b.hi caps
high-within caps old now split is_split b xs within settles held is ordered =
    within b.hi (subst (λ (zs : List (List ℕ)). In b.hi zs) (sym (ap (λ (a : Area). a.states) (settled-as old now split is_split false b xs settles held is)))
    (In-high b.lo b.hi ordered))

-- a step that changes no state only splits a region that is held so
pub rested-held : (split m : ℕ) (is_split : Bool) (b : Corners) (xs : List (List ℕ)) (now : Regional) → record { split = m; area = area_of is_split b xs } ≡ now → IsRising xs → IsBelow b.lo b.hi
    → settled split now.area ≡ step split (λ (x : List ℕ). x) now.area
rested-held split m is_split b xs now held rising ordered =
    subst (λ (a : Area). settled split a ≡ step split (λ (x : List ℕ). x) a) (ap (λ (r : Regional). r.area) held) (sym (own is_split))
  where
    own : (s : Bool) → step split (λ (x : List ℕ). x) (area_of s b xs) ≡ settled split (area_of s b xs)
    own true = rested split (area_of true b xs) rising (λ e. absurd (true≢false e))
    own false = rested split (area_of false b xs) (box-rising b.lo b.hi) (λ e. hull-box b.lo b.hi ordered)
