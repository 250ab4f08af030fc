-- The arcs of states: which they are, what a list of them holds, and the arc hull.
use Rattle.std.specs.Prelude.{◌≡◌, ℕ, List, length, true, nat_eq, refl}
use Rattle.std.specs.List.{list_all}
use Rattle.std.proofs.Common.{sym, subst, arith}
use Rattle.std.proofs.lemmas.Bool.{eqb-true, eq-eqb}
use Rattle.std.proofs.lemmas.Grind.{common_steps}
use Rattle.psi_state.specs.State.{numbers_from, all_states}
use Rattle.psi_state.specs.Members.{In}
use Rattle.psi_state.specs.Ascending.{IsRising}
use Rattle.psi_state.proofs.MembersLemmas.{In-map, In-of_map, In-flat_map, In-of_flat_map, In-numbers_from, In-of_numbers_from}
use Rattle.psi_state.proofs.BoxesLemmas.{In-all_states, In-of_all_states}
use Rattle.psi_state.proofs.AscendingLemmas.{box-rising}
use Rattle.psi_closed_arcs.specs.declared.ends.Arc.{Arc}
use Rattle.psi_closed_arcs.specs.Walks.{customers, IsArc}
use Rattle.psi_closed_arcs.proofs.RowsLemmas.{arc-same}
use Rattle.psi_closed.specs.Closed.{IsOfTotal, total_states, arc_at, arcs_of, all_arcs, is_same, has_arc, held_states}
use Rattle.psi_closed.proofs.ListsLemmas.{In-filter, In-of_filter, filter-agree, filter-rising, list_all-true, list_all-each, list_any-found, list_any-some, same-bool}

abbrev pub arc : ℕ → ℕ → ℕ → Arc
arc l a v = record { level = l; before = a; value = v }

pub is_same-true : (a b : Arc) → is_same a b ≡ true → a ≡ b
is_same-true a b same = grind (arith, common_steps)

pub is_same-itself : (a : Arc) → is_same a a ≡ true
is_same-itself a = grind (arith, common_steps)

-- the test finds the members
pub has_arc-member : (arcs : List Arc) (a : Arc) → In a arcs → has_arc arcs a ≡ true
has_arc-member arcs a member = list_any-found (λ b. is_same a b) arcs a member (is_same-itself a)

pub member-has_arc : (arcs : List Arc) (a : Arc) → has_arc arcs a ≡ true → In a arcs
member-has_arc arcs a has =
    let found = list_any-some (λ b. is_same a b) arcs has in
    subst (λ b. In b arcs) (sym (is_same-true a found.0 found.2)) found.1

-- the arcs of a state
pub In-arcs_of : (x : List ℕ) (l a v : ℕ) → IsArc x l a v → In (arc l a v) (arcs_of x)
In-arcs_of x l a v is =
    let place = is.place in
    let member : In l (numbers_from 0 (length x)) = In-numbers_from l 0 (length x) (omega arith) (omega arith) in
    subst (λ b. In b (arcs_of x)) (arc-same (arc_at x l) (arc l a v) refl is.sum is.own) (In-map (λ i. arc_at x i) l (numbers_from 0 (length x)) member)

pub In-of_arcs_of : (x : List ℕ) (b : Arc) → In b (arcs_of x) → IsArc x b.level b.before b.value
In-of_arcs_of x b member =
    let found = In-of_map (λ i. arc_at x i) b (numbers_from 0 (length x)) member in
    let bounds = In-of_numbers_from found.0 0 (length x) found.1 in
    subst (λ (c : Arc). IsArc x c.level c.before c.value) (sym found.2) (record { place = omega arith; sum = refl; own = refl })

pub In-all_arcs : (xs : List (List ℕ)) (x : List ℕ) (l a v : ℕ) → In x xs → IsArc x l a v → In (arc l a v) (all_arcs xs)
unfolding all_arcs
In-all_arcs xs x l a v member is = In-flat_map (λ y. arcs_of y) x (arc l a v) xs member (In-arcs_of x l a v is)

pub In-of_all_arcs : (xs : List (List ℕ)) (b : Arc) → In b (all_arcs xs) → (x : List ℕ) × In x xs × IsArc x b.level b.before b.value
unfolding all_arcs
In-of_all_arcs xs b member = grind (arith, common_steps, In-of_flat_map, In-of_arcs_of)

-- the states of a total
pub In-total_states : (caps : List ℕ) (k : ℕ) (x : List ℕ) → IsOfTotal caps k x → In x (total_states caps k)
unfolding total_states
In-total_states caps k x is = grind (arith, common_steps, In-filter, In-all_states, eq-eqb)

pub In-of_total_states : (caps : List ℕ) (k : ℕ) (x : List ℕ) → In x (total_states caps k) → IsOfTotal caps k x
unfolding total_states
In-of_total_states caps k x member = grind (arith, common_steps, In-of_filter, In-of_all_states, eqb-true)

pub total_states-rising : (caps : List ℕ) (k : ℕ) → IsRising (total_states caps k)
unfolding total_states
total_states-rising caps k = filter-rising (λ y. nat_eq (customers y) k) (all_states caps) (box-rising _ caps)

-- each arc of the state is in the list
pub record HasArcs (arcs : List Arc) (x : List ℕ) : Type 0 where
  pub each : (l a v : ℕ) → IsArc x l a v → In (arc l a v) arcs

has-all : (arcs : List Arc) (x : List ℕ) → HasArcs arcs x → list_all (λ a. has_arc arcs a) (arcs_of x) ≡ true
has-all arcs x has =
    list_all-each (λ a. has_arc arcs a) (arcs_of x) (λ b member. has_arc-member arcs b (has.each b.level b.before b.value (In-of_arcs_of x b member)))

all-has : (arcs : List Arc) (x : List ℕ) → list_all (λ a. has_arc arcs a) (arcs_of x) ≡ true → HasArcs arcs x
all-has arcs x all = record {
  each = λ l a v is. member-has_arc arcs (arc l a v) (list_all-true (λ b. has_arc arcs b) (arcs_of x) (arc l a v) all (In-arcs_of x l a v is));
}

-- what a list of arcs holds
pub In-held : (caps : List ℕ) (k : ℕ) (arcs : List Arc) (x : List ℕ) → IsOfTotal caps k x → HasArcs arcs x → In x (held_states caps k arcs)
unfolding held_states
In-held caps k arcs x is has = grind (arith, common_steps, In-filter, In-total_states, has-all)

pub In-of_held : (caps : List ℕ) (k : ℕ) (arcs : List Arc) (x : List ℕ) → In x (held_states caps k arcs) → IsOfTotal caps k x × HasArcs arcs x
unfolding held_states
In-of_held caps k arcs x member =
    let old = In-of_filter (λ y. list_all (λ a. has_arc arcs a) (arcs_of y)) x (total_states caps k) member in
    (In-of_total_states caps k x old.0, all-has arcs x old.1)

pub held-rising : (caps : List ℕ) (k : ℕ) (arcs : List Arc) → IsRising (held_states caps k arcs)
unfolding held_states
held-rising caps k arcs = filter-rising (λ y. list_all (λ a. has_arc arcs a) (arcs_of y)) (total_states caps k) (total_states-rising caps k)

-- lists with the same arcs hold the same
pub held-agree : (caps : List ℕ) (k : ℕ) (first second : List Arc) → ((l a v : ℕ) → In (arc l a v) first → In (arc l a v) second)
    → ((l a v : ℕ) → In (arc l a v) second → In (arc l a v) first) → held_states caps k first ≡ held_states caps k second
unfolding held_states
held-agree caps k first second there back =
    filter-agree (λ y. list_all (λ a. has_arc first a) (arcs_of y)) (λ y. list_all (λ a. has_arc second a) (arcs_of y)) (total_states caps k)
    (λ y member. same-bool (list_all (λ a. has_arc first a) (arcs_of y)) (list_all (λ a. has_arc second a) (arcs_of y))
    (λ all. has-all second y (record { each = λ l a v is. there l a v ((all-has first y all).each l a v is) }))
    (λ all. has-all first y (record { each = λ l a v is. back l a v ((all-has second y all).each l a v is) })))
