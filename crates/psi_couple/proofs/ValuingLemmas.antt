-- The one value of the states of a list, and of those of a box whose least and greatest value are equal.
use Rattle.std.specs.Prelude.{◌≡◌, ℕ, zero, suc, ◌+◌, ◌-◌, ◌^◌, ◌<◌, ◌≤◌, ℤ, ◌≤ℤ◌, List, [], ◌∷◌, length, map, Bool, true, false, ◌&&◌, Option, Some, None, if◌then◌else◌, slice_index_or, refl}
use Rattle.std.specs.List.{list_all}
use Rattle.std.specs.Ordering.{int_eq}
use Rattle.std.proofs.Common.{inl, inr, ap, sym, ◌∙◌, subst, arith}
use Rattle.std.proofs.lemmas.Bool.{and_parts}
use Rattle.std.proofs.lemmas.Bool.Decides.{Decides-int_eq}
use Rattle.std.proofs.lemmas.Int.{ints, clamps}
use Rattle.psi_state.specs.State.{Corners, box}
use Rattle.psi_state.specs.Members.{In}
use Rattle.psi_state.proofs.BoxesLemmas.{In-box}
use Rattle.psi_state.proofs.MembersLemmas.{In-map}
use Rattle.psi_reward.specs.Ranges.{least, greatest, IsReached}
use Rattle.psi_region.specs.Followed.{AreEnds}
use Rattle.psi_rate.specs.Composition.{compose, AreClosed}
use Rattle.psi_rate.specs.Doubling.{first_answer, HasNone, IsFirst, TellsFirst}
use Rattle.psi_rate.proofs.DoublingLemmas.{first_answer-found, first_answer-none, first_answer-tells}
use Rattle.psi_horizon.specs.Runs.{region_at}
use Rattle.psi_horizon.proofs.RunsLemmas.{run-area, run-among, run-has}
use Rattle.psi_couple.proofs.OptionLemmas.{none-without}
use Rattle.psi_couple.specs.declared.answers.Valued.{Valued}
use Rattle.psi_couple.specs.declared.answers.Valued.TheVariants.{At, NotAt}
use Rattle.psi_couple.specs.Valuing.{common_value, value_at, valued_of, valued_within, IsValued, IsValueReached, DecidesValues}

abbrev is_value : (List ℕ → ℤ) → ℤ → List ℕ → Bool
is_value value v x = int_eq (value x) v

list_all-same : (value : List ℕ → ℤ) (v : ℤ) (xs : List (List ℕ)) → ((x : List ℕ) → In x xs → value x ≡ v) → list_all (is_value value v) xs ≡ true
list_all-same value v [] each = refl
list_all-same value v (x ∷ xs) each =
    ap (λ b. b && list_all (is_value value v) xs) ((Decides-int_eq (value x) v).1 (each x (inl refl)))
    ∙ list_all-same value v xs (λ y member. each y (inr member))

list_all-each : (value : List ℕ → ℤ) (v : ℤ) (xs : List (List ℕ)) (x : List ℕ) → list_all (is_value value v) xs ≡ true → In x xs → value x ≡ v
list_all-each value v [] x all member = absurd member
list_all-each value v (y ∷ ys) x all member =
    let parts = and_parts (int_eq (value y) v) (list_all (is_value value v) ys) all in
    elim member [
      | inl is ↦ ap value is ∙ (Decides-int_eq (value y) v).0 parts.0
      | inr rest ↦ list_all-each value v ys x parts.1 rest
    ]

-- where the states of a list have one value, it is the common value
pub common_value-same : (value : List ℕ → ℤ) (v : ℤ) (xs : List (List ℕ)) (z : List ℕ) → In z xs → ((x : List ℕ) → In x xs → value x ≡ v)
    → common_value value xs ≡ Some v
common_value-same value v [] z member each = absurd member
common_value-same value v (x ∷ xs) z member each =
    let own : value x ≡ v = each x (inl refl) in
    let all : list_all (is_value value (value x)) xs ≡ true = list_all-same value (value x) xs (λ y there. each y (inr there) ∙ sym own) in
    ap (λ b. if b then Some (value x) else None) all ∙ ap (λ n. Some n) own

common_value-test : (value : List ℕ → ℤ) (v : ℤ) (y x : List ℕ) (ys : List (List ℕ)) (b : Bool) → list_all (is_value value (value y)) ys ≡ b
    → (if b then Some (value y) else None) ≡ Some v → In x (y ∷ ys) → value x ≡ v
common_value-test value v y x ys true all is member =
    let own : value y ≡ v = cc in
    elim member [ inl first ↦ ap value first ∙ own | inr rest ↦ list_all-each value (value y) ys x all rest ∙ own ]
common_value-test value v y x ys false all is member = absurd cc

-- each state of a list has its common value
pub common_value-each : (value : List ℕ → ℤ) (v : ℤ) (xs : List (List ℕ)) (x : List ℕ) → common_value value xs ≡ Some v → In x xs → value x ≡ v
common_value-each value v [] x is member = absurd member
common_value-each value v (y ∷ ys) x is member = common_value-test value v y x ys (list_all (is_value value (value y)) ys) refl is member

-- two states of different values have none in common
pub common_value-apart : (value : List ℕ → ℤ) (xs : List (List ℕ)) (x y : List ℕ) → In x xs → In y xs → (value x ≡ value y → ⊥) → common_value value xs ≡ None
common_value-apart value xs x y first second apart =
    none-without (common_value value xs) (λ v is. apart (common_value-each value v xs x is first ∙ sym (common_value-each value v xs y is second)))

least-below : (z y : ℤ) (ys : List ℤ) → In z (y ∷ ys) → least (y ∷ ys) ≤ℤ z
least-below z y [] member = elim member [ inl is ↦ omega (arith, ints) | inr none ↦ absurd none ]
least-below z y (x ∷ ys) member =
    elim member [
      | inl is ↦ omega (arith, ints, clamps)
      | inr rest ↦ (let below : least (x ∷ ys) ≤ℤ z = least-below z x ys rest in omega (arith, ints, clamps))
    ]

greatest-above : (z y : ℤ) (ys : List ℤ) → In z (y ∷ ys) → z ≤ℤ greatest (y ∷ ys)
greatest-above z y [] member = elim member [ inl is ↦ omega (arith, ints) | inr none ↦ absurd none ]
greatest-above z y (x ∷ ys) member =
    elim member [
      | inl is ↦ omega (arith, ints, clamps)
      | inr rest ↦ (let above : z ≤ℤ greatest (x ∷ ys) = greatest-above z x ys rest in omega (arith, ints, clamps))
    ]

-- the value of a state of a list is between the least and the greatest
value-between : (value : List ℕ → ℤ) (x : List ℕ) (xs : List (List ℕ)) → In x xs → (least (map value xs) ≤ℤ value x) × (value x ≤ℤ greatest (map value xs))
value-between value x [] member = absurd member
value-between value x (y ∷ ys) member =
    (least-below (value x) (value y) (map value ys) (In-map value x (y ∷ ys) member), greatest-above (value x) (value y) (map value ys) (In-map value x (y ∷ ys) member))

-- where the least and the greatest value are one, it is the common value
pub common_value-one : (value : List ℕ → ℤ) (xs : List (List ℕ)) (low high : ℤ) → low ≡ least (map value xs) → high ≡ greatest (map value xs)
    → IsReached value xs low → low ≡ high → Some low ≡ common_value value xs
common_value-one value xs low high first last reached one =
    sym (common_value-same value low xs reached.0 reached.1
    (λ x member. (let between = value-between value x xs member in let under = between.0 in let over = between.1 in omega (arith, ints))))

-- and where they are two, there is none
pub common_value-two : (value : List ℕ → ℤ) (xs : List (List ℕ)) (low high : ℤ) → IsReached value xs low → IsReached value xs high → (low ≡ high → ⊥)
    → None ≡ common_value value xs
common_value-two value xs low high first last two =
    sym (common_value-apart value xs first.0 last.0 first.1 last.1 (λ tied. two (sym first.2 ∙ (tied ∙ last.2))))

-- where the states between the ends of a list have one value, it is the common value of the list
pub ends-one : (value : List ℕ → ℤ) (b : Corners) (xs : List (List ℕ)) (v : ℤ) → AreEnds b xs → Some v ≡ common_value value (box b.lo b.hi) → Some v ≡ common_value value xs
ends-one value b xs v ends one =
    sym (common_value-same value v xs b.lo ends.low (λ x member.
    (let here = ends.between x member in common_value-each value v (box b.lo b.hi) x (sym one) (In-box b.lo b.hi x here.low here.high))))

-- and where the ends have two values, there is none
pub ends-two : (value : List ℕ → ℤ) (b : Corners) (xs : List (List ℕ)) → AreEnds b xs → (value b.lo ≡ value b.hi → ⊥) → None ≡ common_value value xs
ends-two value b xs ends two = sym (common_value-apart value xs b.lo b.hi ends.low ends.high two)

-- the states of a list by their places
pub In-place : (xs : List (List ℕ)) (k : ℕ) (d : List ℕ) → k < length xs → In (slice_index_or xs k d) xs
In-place [] k d small = absurd (omega arith)
In-place (x ∷ xs) zero d small = inl refl
In-place (x ∷ xs) (suc k) d small = inr (In-place xs k d (omega arith))

pub In-each : (P : List ℕ → Type 0) (xs : List (List ℕ)) (d : List ℕ) → ((k : ℕ) → k < length xs → P (slice_index_or xs k d)) → (x : List ℕ) → In x xs → P x
In-each P [] d each x member = absurd member
In-each P (y ∷ ys) d each x member =
    elim member [
      | inl is ↦ subst P (sym is) (each 0 (omega arith))
      | inr rest ↦ In-each P ys d (λ k small. each (suc k) (omega arith)) x rest
    ]

pub valued_within-at : (run : ℕ → Option ℤ) (limit t : ℕ) (v : ℤ) → IsFirst run limit t v → At t v ≡ valued_within run limit
unfolding valued_within
valued_within-at run limit t v first = ap (λ found. valued_of limit found) (sym (first_answer-found run limit t v first))

pub valued_within-none : (run : ℕ → Option ℤ) (limit : ℕ) → HasNone run (suc limit) → NotAt limit ≡ valued_within run limit
unfolding valued_within
valued_within-none run limit none = ap (λ found. valued_of limit found) (sym (first_answer-none run limit none))

-- a value in these words is the first one of the run
pub valued_within-only : (run : ℕ → Option ℤ) (limit : ℕ) (o : Valued) → IsValued run limit o → o ≡ valued_within run limit
valued_within-only run limit (At t v) is = valued_within-at run limit t v is
valued_within-only run limit (NotAt l) is = ap (λ n. NotAt n) is.0 ∙ valued_within-none run limit is.1

-- and the first value of a run is one in these words
valued_of-is : (run : ℕ → Option ℤ) (limit : ℕ) (found : Option (ℕ × ℤ)) → TellsFirst run limit found → IsValued run limit (valued_of limit found)
valued_of-is run limit None tells = (refl, tells)
valued_of-is run limit (Some found) tells = tells

pub valued_within-is : (run : ℕ → Option ℤ) (limit : ℕ) → IsValued run limit (valued_within run limit)
unfolding valued_within
valued_within-is run limit = valued_of-is run limit (first_answer run limit) (first_answer-tells run limit)

-- every state has the value with which a run ends, from its horizon on: a longer run's states are among a shorter run's
pub value-reached : (value : List ℕ → ℤ) (split : ℕ) (caps : List ℕ) (f : ℕ → List ℕ → List ℕ) (t : ℕ) (v : ℤ) → AreClosed caps f
    → value_at value split f caps t ≡ Some v → IsValueReached value f caps t v
value-reached value split caps f t v closed is = record {
  each = λ x earlier within order.
      (let e : earlier ≡ (earlier - t) + t = omega arith in
      let own : In (compose f earlier x) (region_at split f caps earlier).states = run-has split caps f earlier x closed within in
      common_value-each value v (region_at split f caps t).states (compose f earlier x) is
      (run-among split caps f t (earlier - t) (compose f earlier x) closed
      (subst (λ n. In (compose f earlier x) (region_at split f caps n).states) e own)));
}

-- a run whose states have one value makes the states of each longer run have it
value-later : (value : List ℕ → ℤ) (split : ℕ) (caps : List ℕ) (f : ℕ → List ℕ → List ℕ) (t later : ℕ) (v : ℤ) → AreClosed caps f → t ≤ later
    → value_at value split f caps t ≡ Some v → value_at value split f caps later ≡ Some v
value-later value split caps f t later v closed order is =
    let e : (later - t) + t ≡ later = omega arith in
    let area = run-area split caps f later closed in
    common_value-same value v (region_at split f caps later).states area.some.0 area.some.1
    (λ y member. common_value-each value v (region_at split f caps t).states y is
    (run-among split caps f t (later - t) y closed (subst (λ n. In y (region_at split f caps n).states) (sym e) member)))

-- what a value says of the runs of all horizons
pub valued-decides : (value : List ℕ → ℤ) (split : ℕ) (caps : List ℕ) (f : ℕ → List ℕ → List ℕ) (limit : ℕ) (o : Valued) → AreClosed caps f
    → IsValued (value_at value split f caps) limit o → DecidesValues value split f caps limit o
valued-decides value split caps f limit (At t v) closed is = λ later order. value-later value split caps f t later v closed order is.answer
valued-decides value split caps f limit (NotAt l) closed is = λ t order.
    none-without (value_at value split f caps t) (λ v found.
    (let longer : value_at value split f caps (2 ^ limit) ≡ Some v = value-later value split caps f t (2 ^ limit) v closed order found in
    let none : value_at value split f caps (2 ^ limit) ≡ None = is.1.each limit (omega arith) in
    absurd cc))
