-- A route makes states of states.
use Rattle.std.specs.Prelude.{◌≡◌, ℕ, ◌+◌, ◌-◌, ◌≤◌, List, length, slice_index, Option, Some, None, Bool, true, false, ◌||◌, nat_eq, if◌then◌else◌, refl}
use Rattle.std.proofs.Common.{inl, inr, sym, subst, arith}
use Rattle.std.proofs.lemmas.Bool.{cases_lt}
use Rattle.std.proofs.lemmas.List.{set_past}
use Rattle.psi_state.specs.State.{IsBelow}
use Rattle.psi_state.proofs.BoxesLemmas.{set-below}
use Rattle.psi_event.specs.Law.{IsClosed}
use Rattle.psi_route.specs.Routing.{Shape, Routing, routing, best, taken, moved, routed}
use Rattle.psi_route.specs.Inner.ActingLaws.{act-idle, act-serves, best-place}

pub taken-below : (r : Routing) (x y : List ℕ) → IsBelow x y → IsBelow (taken r x) y
taken-below r x y below =
    elim (cases_lt r.source (length x)) [
      | inl place ↦ (let old : slice_index x r.source ≤ slice_index y r.source = below.each r.source place in
          set-below x y r.source (slice_index x r.source - 1) below (omega arith))
      | inr past ↦ subst (λ (z : List ℕ). IsBelow z y) (sym (set_past {X = ℕ} x r.source (slice_index x r.source - 1) past)) below
    ]

left-below : (r : Routing) (x y : List ℕ) (b : Bool) → IsBelow x y → IsBelow (if b then taken r x else x) y
left-below r x y true below = taken-below r x y below
left-below r x y false below = below

moved-below : (s : Shape) (x : List ℕ) (o : Option ℕ) → best (routing s) x ≡ o → IsBelow x s.caps → IsBelow (moved (routing s) x o) s.caps
moved-below s x (Some j) is below =
    let place = best-place (routing s) x j is in
    set-below (taken (routing s) x) s.caps (slice_index s.targets j) (slice_index x (slice_index s.targets j) + s.size)
    (taken-below (routing s) x s.caps below) place.1
moved-below s x None is below = left-below (routing s) x s.caps ((routing s).lost || nat_eq ((routing s).places) 0) below

-- whatever the shape is, a chosen target has room
pub routed-closed : (s : Shape) → IsClosed s.caps (routed s)
unfolding routed
routed-closed s = record {
  each = λ x below. elim (cases_lt (slice_index x ((routing s).source)) ((routing s).least)) [
    | inl idle ↦ subst (λ (y : List ℕ). IsBelow y s.caps) (sym (act-idle (routing s) x idle)) below
    | inr serves ↦ subst (λ (y : List ℕ). IsBelow y s.caps) (sym (act-serves (routing s) x serves))
        (moved-below s x (best (routing s) x) refl below)
  ];
}
