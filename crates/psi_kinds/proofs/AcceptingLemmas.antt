-- What isn't refused of a kind isn't refused of its form.
use Rattle.std.specs.Prelude.{◌≡◌, ℕ, suc, ◌<◌, ◌≤◌, List, [], ◌∷◌, length, true, false, not, ◌&&◌, ◌||◌, nat_eq, nat_le, nat_lt, get_or, is_some, Option, Some, None, slice_index, refl}
use Rattle.std.specs.List.{list_any}
use Rattle.std.specs.Option.{option_map}
use Rattle.std.proofs.Common.{ap, sym, arith}
use Rattle.std.proofs.lemmas.Bool.{le-ltb, or_parts, or_from, not-false}
use Rattle.psi_state.specs.State.{AreCapacities}
use Rattle.psi_state.specs.Repeats.{repeats}
use Rattle.psi_event.specs.Choice.{first_or}
use Rattle.psi_guard.specs.declared.Part.{Part}
use Rattle.psi_guard.specs.Refusals as guard
use Rattle.psi_guard.proofs.AcceptedLemmas.{first_or-none, guards-accepted, guards-few}
use Rattle.psi_route.specs.declared.Source.{Source}
use Rattle.psi_route.specs.declared.Full.{Full}
use Rattle.psi_route.specs.Accepted.{shape}
use Rattle.psi_route.proofs.TablesLemmas.{are_tables-true}
use Rattle.psi_route.specs.Refusals as shapes
use Rattle.psi_route.specs.Refusals.{is_self_target, are_tables, fit_tables, is_size_off}
use Rattle.psi_kinds.specs.declared.kinds.Kind.{Kind}
use Rattle.psi_kinds.specs.Kinds.{AreQueues}
use Rattle.psi_kinds.specs.Refusals.{has_given, of_parts, listed_refusal, refusal_of_guards, refusal_of_parts, refusal_of}

-- ---- routes

-- a shape of which no test succeeds isn't refused
pub shape-accepted : (caps : List ℕ) (source : Option Source) (size : ℕ) (to : List ℕ) (tables : List (List ℕ)) (full : Full)
    → is_self_target source to ≡ false → repeats to ≡ false → fit_tables caps to tables ≡ true → is_size_off caps source size to ≡ false
    → shapes.refusal_of (shape caps source size to tables full) ≡ None
unfolding shapes.refusal_of
shape-accepted caps source size to tables full away once fit sized = rw (away, once, fit, sized)

one-fits : (caps to : List ℕ) → AreCapacities caps → AreQueues caps to → list_any (λ q. nat_lt (slice_index caps q) 1) to ≡ false
one-fits caps [] valid places = refl
one-fits caps (q ∷ to) valid places =
    or_from (nat_lt (slice_index caps q) 1) (list_any (λ p. nat_lt (slice_index caps p) 1) to)
    (le-ltb (slice_index caps q) 1 (valid.least q (places 0 (omega arith))))
    (one-fits caps to valid (λ i small. places (suc i) (omega arith)))

-- a list without tables, of size 1
pub listed-accepted : (caps : List ℕ) (source : Option Source) (to : List ℕ) (full : Full) → AreCapacities caps → AreQueues caps to
    → is_self_target source to ≡ false → repeats to ≡ false → shapes.refusal_of (shape caps source 1 to [] full) ≡ None
listed-accepted caps source to full valid places away once =
    shape-accepted caps source 1 to [] full away once refl
    (or_from (nat_eq 1 0 || list_any (λ q. nat_lt (slice_index caps q) 1) to) (nat_le 2 1 && (is_some source || nat_eq (length to) 0))
    (one-fits caps to valid places) refl)

-- tables that fit
pub tables-fit : (caps to : List ℕ) (tables : List (List ℕ)) → not (are_tables caps to tables) ≡ false → fit_tables caps to tables ≡ true
tables-fit caps to [] is = refl
tables-fit caps to (table ∷ tables) is = not-false (are_tables caps to (table ∷ tables)) is

-- each has from 1 to 65,535 values
pub tables-within : (caps to : List ℕ) (tables : List (List ℕ)) (i : ℕ) → AreCapacities caps → AreQueues caps to
    → not (are_tables caps to tables) ≡ false → i < length tables → (1 ≤ length (get_or tables i [])) × (length (get_or tables i []) ≤ 65535)
tables-within caps to tables i valid places is small =
    let found = are_tables-true caps to tables (not-false (are_tables caps to tables) is) in
    let count : length tables ≡ length to = found.0 in
    let long : length (get_or tables i []) ≡ slice_index caps (slice_index to i) = found.1 i small in
    let place = places i (omega arith) in
    (omega (arith, valid.least (slice_index to i) place), omega (arith, valid.most (slice_index to i) place))

-- ---- refusals

-- where the lists and numbers are no cause, the parts are
pub refusal-parts : (caps : List ℕ) (kind : Kind) → listed_refusal caps kind ≡ None → refusal_of_parts caps kind ≡ refusal_of caps kind
unfolding refusal_of
refusal-parts caps kind is = sym (ap (λ o. first_or o (refusal_of_parts caps kind)) is)

-- where a kind isn't refused, neither its lists and numbers nor its parts are a cause
pub accepted-parts : (caps : List ℕ) (kind : Kind) → refusal_of caps kind ≡ None → (listed_refusal caps kind ≡ None) × (refusal_of_parts caps kind ≡ None)
unfolding refusal_of
accepted-parts caps kind is = first_or-none (listed_refusal caps kind) (refusal_of_parts caps kind) is

-- parts of a guarded kind that isn't refused are none of those that make no guarded event
pub guards-unrefused : (caps : List ℕ) (parts : List Part) → refusal_of_guards caps parts ≡ None → guard.refusal_of caps parts ≡ None
guards-unrefused caps [] is = absurd cc
guards-unrefused caps (part ∷ parts) is = map-none of_parts (guard.refusal_of caps (part ∷ parts)) is
  where
    map-none : {A B : Type 0} (f : A → B) (o : Option A) → option_map f o ≡ None → o ≡ None
    map-none f None is = refl
    map-none f (Some a) is = absurd cc

-- the queue that a join leads to is not in its list
pub other-away : (from : List ℕ) (to : Option ℕ) → (has_given from to || is_self_target None from) ≡ false → has_given from to ≡ false
other-away from to is = (or_parts (has_given from to) false is).0

-- parts that aren't refused are at most 32
pub parts-few : (caps : List ℕ) (parts : List Part) → length caps ≤ 32 → guard.refusal_of caps parts ≡ None → length parts ≤ 32
parts-few caps parts few is =
    let fewer : length parts ≤ length caps = guards-few caps parts (guards-accepted caps parts is) in omega arith
