-- A region that is followed through the events of numbers, and the two states between which it stays in a monotone network.
use Rattle.std.specs.Prelude.{◌≡◌, ℕ, suc, ◌+◌, ◌-◌, ◌<◌, ◌≤◌, List, [], ◌∷◌, ◌++◌, length, map, slice_index, slice_index_or, All, Bool, true, false, Option, Some, None, refl}
use Rattle.std.proofs.Common.{inl, inr, ap, sym, ◌∙◌, subst, take, arith, below_more}
use Rattle.std.proofs.lemmas.Bool.{cases_lt}
use Rattle.std.proofs.lemmas.List.{get_or_past, get_or_append_left, get_or_push}
use Rattle.std.proofs.lemmas.List.Elements.{All-map}
use Rattle.std.proofs.Math.Seq.{take-suc}
use Rattle.psi_state.specs.State.{IsBelow, Corners, zeros}
use Rattle.psi_state.specs.Members.{In}
use Rattle.psi_state.specs.Boxes.{IsBetween}
use Rattle.psi_state.proofs.BoxesLemmas.{In-of_all_states, In-all_states, same-from_below, zeros-below, below-itself}
use Rattle.psi_state.specs.Sets.{image, single}
use Rattle.psi_state.proofs.SetsLemmas.{single-apart, In-image, In-of_image}
use Rattle.psi_state.proofs.StatesLemmas.{In-zeros}
use Rattle.psi_state.specs.Ascending.{IsRising}
use Rattle.psi_state.proofs.AscendingLemmas.{rising-same_each}
use Rattle.psi_event.specs.Law.{Function, IsClosed, IsMonotone}
use Rattle.psi_event.specs.Numbers.{follow_numbers}
use Rattle.psi_region.specs.Region.{Area, start, splits, next, step, IsArea}
use Rattle.psi_region.specs.Followed.{follow_areas, Followed, AreEnds, AreMoved, Network, followed, states_of, ending_of, IsOne}
use Rattle.psi_region.proofs.RegionLemmas.{start-area, step-area, step-has, hull-between, image-length}

pub follow_areas-append : (split : ℕ) (functions : List Function) (xs ys : List ℕ) (a : Area)
    → follow_areas split functions (xs ++ ys) a ≡ follow_areas split functions xs (follow_areas split functions ys a)
follow_areas-append split functions [] ys a = refl
follow_areas-append split functions (n ∷ xs) ys a =
    ap (λ (b : Area). step split (slice_index_or functions n (λ x. x)) b) (follow_areas-append split functions xs ys a)

-- the step of one number takes it off the end
pub follow_areas-take : (split : ℕ) (functions : List Function) (numbers : List ℕ) (i : ℕ) (a b end : Area) → 1 ≤ i → i ≤ length numbers
    → b ≡ step split (slice_index_or functions (slice_index numbers (i - 1)) (λ x. x)) a → follow_areas split functions (take i numbers) a ≡ end
    → follow_areas split functions (take (i - 1) numbers) b ≡ end
follow_areas-take split functions numbers i a b end some within stepped is =
    let last = i - 1 in
    let e : suc last ≡ i = omega arith in
    let small : last < length numbers = omega arith in
    ap (λ (c : Area). follow_areas split functions (take last numbers) c) stepped
    ∙ sym (follow_areas-append split functions (take last numbers) (slice_index numbers last ∷ []) a)
    ∙ ap (λ (ns : List ℕ). follow_areas split functions ns a) (sym (take-suc numbers last 0 small))
    ∙ ap (λ n. follow_areas split functions (take n numbers) a) e
    ∙ is

-- each event of a list makes states of states, where each does within its own capacities and these are the same
pub events-closed : {E : Type 0} (capacities : E → List ℕ) (function : E → List ℕ → List ℕ) (caps : List ℕ) (events : List E)
    → ((event : E) → IsClosed (capacities event) (function event)) → All (λ event. capacities event ≡ caps) events
    → All (λ f. IsClosed caps f) (map function events)
events-closed {E} capacities function caps events closed same =
    All-map (IsClosed caps) function events
    (λ k d small. subst (λ (cs : List ℕ). IsClosed cs (function (slice_index_or events k d))) (same k d small) (closed (slice_index_or events k d)))

-- what each of the first elements has at its place, and one that is put after them at its own, each of all has
pub each-pushed : {A : Type 0} (P : ℕ → A → Type 0) (d : A) (xs more : List A) (n : ℕ) (x : A) → length xs ≡ n → more ≡ xs ++ x ∷ []
    → ((i : ℕ) → i < n → P i (slice_index_or xs i d)) → P n x → (i : ℕ) → i < n + 1 → P i (slice_index_or more i d)
each-pushed {A} P d xs more n x long is each own =
    subst (λ (ys : List A). (i : ℕ) → i < n + 1 → P i (slice_index_or ys i d)) (sym is)
    (below_more (λ i. P i (slice_index_or (xs ++ x ∷ []) i d)) n
    (λ i under. subst (P i) (sym (get_or_append_left xs (x ∷ []) d i (omega arith))) (each i under))
    (subst (P n) (sym (get_or_push xs x d n long)) own))

-- what each function of a list has, that of a number has, which changes nothing where it is past the last
number-each : (P : Function → Type 0) (functions : List Function) (number : ℕ) → All P functions → P (λ x. x) → P (slice_index_or functions number (λ x. x))
number-each P functions number each idle = elim (cases_lt number (length functions)) [
  | inl small ↦ each number (λ x. x) small
  | inr past ↦ subst P (sym (get_or_past functions number (λ x. x) past)) idle
]

number-closed : (caps : List ℕ) (functions : List Function) (number : ℕ) → All (λ f. IsClosed caps f) functions → IsClosed caps (slice_index_or functions number (λ x. x))
number-closed caps functions number each = number-each (IsClosed caps) functions number each (record { each = λ x within. within })

number-monotone : (caps : List ℕ) (functions : List Function) (number : ℕ) → All (λ f. IsMonotone caps f) functions → IsMonotone caps (slice_index_or functions number (λ x. x))
number-monotone caps functions number each = number-each (IsMonotone caps) functions number each (record { each = λ x y within below. below })

-- what the events make of a state is within the capacities
pub follow_numbers-closed : (caps : List ℕ) (functions : List Function) (numbers x : List ℕ) → All (λ f. IsClosed caps f) functions → IsBelow x caps
    → IsBelow (follow_numbers functions numbers x) caps
follow_numbers-closed caps functions [] x closed within = within
follow_numbers-closed caps functions (n ∷ numbers) x closed within =
    (number-closed caps functions n closed).each (follow_numbers functions numbers x) (follow_numbers-closed caps functions numbers x closed within)

-- a region stays one, and has what the events make of each of its states
pub follow_areas-area : (split : ℕ) (caps : List ℕ) (functions : List Function) (numbers : List ℕ) (a : Area) → All (λ f. IsClosed caps f) functions → IsArea caps a
    → IsArea caps (follow_areas split functions numbers a)
follow_areas-area split caps functions [] a closed is = is
follow_areas-area split caps functions (n ∷ numbers) a closed is =
    step-area split caps (slice_index_or functions n (λ x. x)) (follow_areas split functions numbers a) (number-closed caps functions n closed)
    (follow_areas-area split caps functions numbers a closed is)

pub follow_areas-has : (split : ℕ) (caps : List ℕ) (functions : List Function) (numbers : List ℕ) (a : Area) (x : List ℕ) → All (λ f. IsClosed caps f) functions → IsArea caps a
    → In x a.states → In (follow_numbers functions numbers x) (follow_areas split functions numbers a).states
follow_areas-has split caps functions [] a x closed is member = member
follow_areas-has split caps functions (n ∷ numbers) a x closed is member =
    step-has split caps (slice_index_or functions n (λ y. y)) (follow_areas split functions numbers a) (follow_numbers functions numbers x)
    (number-closed caps functions n closed) (follow_areas-area split caps functions numbers a closed is) (follow_areas-has split caps functions numbers a x closed is member)

-- under a monotone event a region stays between what the event makes of two corners
next-between : (caps : List ℕ) (f : List ℕ → List ℕ) (xs : List (List ℕ)) (z l h : List ℕ) (b : Bool) → IsClosed caps f → IsMonotone caps f → In z xs
    → ((x : List ℕ) → In x xs → IsBelow x caps) → IsBelow h caps → ((x : List ℕ) → In x xs → IsBetween l h x)
    → (x : List ℕ) → In x (next b f xs).states → IsBetween (f l) (f h) x
next-between caps f xs z l h b closed mono member within top each = last b
  where
    made : (x : List ℕ) → In x (image f xs) → IsBetween (f l) (f h) x
    made x found = (let old = In-of_image f x xs found in
        let between : IsBetween l h old.0 = each old.0 old.1 in
        subst (λ (y : List ℕ). IsBetween (f l) (f h) y) (sym old.2) (record {
          low = mono.each l old.0 (within old.0 old.1) between.low;
          high = mono.each old.0 h top between.high;
        }))

    last : (b : Bool) → (x : List ℕ) → In x (next b f xs).states → IsBetween (f l) (f h) x
    last true x found = made x found
    last false x found =
        hull-between (length caps) (f z) (image f xs) (f l) (f h) (image-length caps f xs closed within) (In-image f z xs member) made x found

pub step-between : (split : ℕ) (caps : List ℕ) (f : List ℕ → List ℕ) (a : Area) (l h : List ℕ) → IsClosed caps f → IsMonotone caps f → IsArea caps a → IsBelow h caps
    → ((x : List ℕ) → In x a.states → IsBetween l h x) → (x : List ℕ) → In x (step split f a).states → IsBetween (f l) (f h) x
unfolding step
step-between split caps f a l h closed mono is top each =
    next-between caps f a.states is.some.0 l h (splits split a) closed mono is.some.1 is.within top each

-- so it does after the events of the numbers
follow_areas-between : (split : ℕ) (caps : List ℕ) (functions : List Function) (numbers : List ℕ) (a : Area) (l h : List ℕ) → All (λ f. IsClosed caps f) functions
    → All (λ f. IsMonotone caps f) functions → IsArea caps a → IsBelow h caps → ((x : List ℕ) → In x a.states → IsBetween l h x)
    → (x : List ℕ) → In x (follow_areas split functions numbers a).states → IsBetween (follow_numbers functions numbers l) (follow_numbers functions numbers h) x
follow_areas-between split caps functions [] a l h closed mono is top each = each
follow_areas-between split caps functions (n ∷ numbers) a l h closed mono is top each =
    step-between split caps (slice_index_or functions n (λ x. x)) (follow_areas split functions numbers a) (follow_numbers functions numbers l) (follow_numbers functions numbers h)
    (number-closed caps functions n closed) (number-monotone caps functions n mono) (follow_areas-area split caps functions numbers a closed is)
    (follow_numbers-closed caps functions numbers h closed top) (follow_areas-between split caps functions numbers a l h closed mono is top each)

-- under monotone events what the events make of the least and of the greatest state are the least and the greatest state of the
-- region of all states (Propp and Wilson 1996)
pub corners-ends : (n : Followed) (numbers l h : List ℕ) → AreMoved n numbers l h → All (λ f. IsMonotone n.caps f) n.functions
    → AreEnds (record { lo = l; hi = h }) (states_of n numbers)
corners-ends n numbers l h moved mono =
    let begin : IsArea n.caps (start n.caps) = start-area n.caps in
    let least = follow_areas-has n.split n.caps n.functions numbers (start n.caps) (zeros n.caps) moved.closed begin (In-zeros n.caps) in
    let greatest = follow_areas-has n.split n.caps n.functions numbers (start n.caps) n.caps moved.closed begin (In-all_states n.caps n.caps (below-itself n.caps)) in
    let inside = follow_areas-between n.split n.caps n.functions numbers (start n.caps) (zeros n.caps) n.caps moved.closed mono begin (below-itself n.caps)
    (λ x member. (let within = In-of_all_states n.caps x member in record { low = zeros-below n.caps x within.same_length; high = within })) in
    record {
      low = subst (λ (x : List ℕ). In x (states_of n numbers)) (sym moved.least) least;
      high = subst (λ (x : List ℕ). In x (states_of n numbers)) (sym moved.greatest) greatest;
      between = λ x member.
          (let here = inside x member in record {
            low = subst (λ (y : List ℕ). IsBelow y x) (sym moved.least) here.low;
            high = subst (λ (y : List ℕ). IsBelow x y) (sym moved.greatest) here.high;
          });
    }

-- so they are of what the corners and the network are seen as
pub seen-ends : {E : Type 0} (function : E → Function) (own seen : Network E) (numbers l h : List ℕ) (b : Corners) → AreMoved (followed function own) numbers l h
    → All (λ f. IsMonotone own.caps f) (map function own.events) → b ≡ record { lo = l; hi = h } → own ≡ seen → AreEnds b (states_of (followed function seen) numbers)
seen-ends {E} function own seen numbers l h b moved mono corners is =
    subst (λ (n : Network E). AreEnds b (states_of (followed function n) numbers)) is
    (subst (λ (c : Corners). AreEnds c (states_of (followed function own) numbers)) (sym corners) (corners-ends (followed function own) numbers l h moved mono))

-- so the one is below the other
pub corners-ordered : (n : Followed) (numbers l h : List ℕ) → AreMoved n numbers l h → All (λ f. IsMonotone n.caps f) n.functions → IsBelow l h
corners-ordered n numbers l h moved mono =
    let ends : AreEnds (record { lo = l; hi = h }) (states_of n numbers) = corners-ends n numbers l h moved mono in
    (ends.between h ends.high).low

-- and the region ends with the state in which the two have met, and with more where they haven't
pub corners-ending : (n : Followed) (numbers l h : List ℕ) (o : Option (List ℕ)) → AreMoved n numbers l h → All (λ f. IsMonotone n.caps f) n.functions
    → IsOne l h o → o ≡ ending_of n numbers
corners-ending n numbers l h o moved mono one = last o one
  where
    end : Area
    end = follow_areas n.split n.functions numbers (start n.caps)

    ends : AreEnds (record { lo = l; hi = h }) end.states
    ends = corners-ends n numbers l h moved mono

    rising : IsRising end.states
    rising = (follow_areas-area n.split n.caps n.functions numbers (start n.caps) moved.closed (start-area n.caps)).rising

    last : (o : Option (List ℕ)) → IsOne l h o → o ≡ ending_of n numbers
    last None apart = sym (single-apart end.states l h ends.low ends.high apart)
    last (Some s) met =
        (let same : l ≡ h = sym met.0 ∙ met.1 in
        let one : end.states ≡ h ∷ [] = rising-same_each end.states h h rising ends.high
        (λ y member. (let here = ends.between y member in same-from_below y h here.high (subst (λ (z : List ℕ). IsBelow z y) same here.low))) in
        ap (λ (x : List ℕ). Some x) met.1 ∙ sym (ap (λ (xs : List (List ℕ)). single xs) one))
