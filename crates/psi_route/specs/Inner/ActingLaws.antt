-- Laws. What a route does to a state, place by place.
use Rattle.std.specs.Prelude.{◌≡◌, ℕ, ◌+◌, ◌<◌, ◌≤◌, List, slice_index, Some, Bool, true, false, ◌&&◌, is_none, if◌then◌else◌, refl}
use Rattle.std.specs.Bool.{then_some}
use Rattle.std.proofs.Common.{ap, subst, arith}
use Rattle.std.proofs.lemmas.Bool.{le-leb, lt-leb, leb-true, and_parts}
use Rattle.psi_event.specs.Choice.{first_some}
use Rattle.psi_event.proofs.ChoiceLemmas.{first_some-of_found}
use Rattle.psi_route.specs.Routing.{Routing, has_room, beats, best_at, best, moved, act, HasRoom}

pub true-then_some : {A : Type 0} (b : Bool) (a c : A) → then_some b a ≡ Some c → (b ≡ true) × (a ≡ c)
true-then_some true a c is = (refl, cc)
true-then_some false a c is = absurd cc

pub is-room : (r : Routing) (x : List ℕ) (i : ℕ) → has_room r x i ≡ true → HasRoom r i (slice_index x (r.queue i))
is-room r x i is = leb-true (slice_index x (r.queue i) + r.size) (r.cap (r.queue i)) is

-- what the function answers has room
pub best-place : (r : Routing) (x : List ℕ) (j : ℕ) → best r x ≡ Some j → (j < r.places) × HasRoom r j (slice_index x (r.queue j))
unfolding best
best-place r x j is =
    let found = first_some-of_found (best_at r x) 0 r.places j is in
    let here = true-then_some (has_room r x found.0 && is_none (first_some (λ i. then_some (beats r x found.0 i) i) 0 r.places)) found.0 j found.3 in
    let room : has_room r x found.0 ≡ true = (and_parts (has_room r x found.0) (is_none (first_some (λ i. then_some (beats r x found.0 i) i) 0 r.places)) here.0).0 in
    let less : found.0 < r.places = omega (arith, found.2) in
    let same : found.0 ≡ j = here.1 in
    (omega arith, is-room r x j (subst (λ k. has_room r x k ≡ true) same room))

-- ---- the function on states

pub act-idle : (r : Routing) (x : List ℕ) → slice_index x r.source < r.least → act r x ≡ x
unfolding act
act-idle r x idle = ap (λ t. if t then moved r x (best r x) else x) (lt-leb r.least (slice_index x r.source) idle)

pub act-serves : (r : Routing) (x : List ℕ) → r.least ≤ slice_index x r.source → act r x ≡ moved r x (best r x)
unfolding act
act-serves r x serves = ap (λ t. if t then moved r x (best r x) else x) (le-leb r.least (slice_index x r.source) serves)
