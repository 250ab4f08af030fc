-- Regions of a log, and the tests of their states by corners or one after another.
use Rattle.std.specs.Prelude.{◌≡◌, ◌↔◌, ℕ, suc, ◌+◌, ◌<◌, ◌≤◌, List, [], ◌∷◌, length, drop, Bool, true, false, nat_le, IsTrue, Option, Some, None, MatchOption, slice_get, slice_index, refl}
use Rattle.std.specs.List.{list_all}
use Rattle.std.specs.Cmp.Lexicographic.{pointwise}
use Rattle.std.proofs.Common.{sym, subst, arith}
use Rattle.std.proofs.lemmas.Bool.{le-leb, leb-true, and_parts, and_from}
use Rattle.psi_state.specs.State.{Corners, IsBelow, box}
use Rattle.psi_state.specs.Members.{In}
use Rattle.psi_state.proofs.BoxesLemmas.{In-high, In-of_box, below-through}
use Rattle.psi_region.specs.Covering.{Covers}
use Rattle.psi_event.specs.Idle.{unchanged}
use Rattle.psi_log_format.specs.Log.{LogRegion, in_box, in_set, IsSet}
use Rattle.psi_log_words.proofs.StateLemmas.{below_found, below_again}
use Rattle.psi_replay.specs.Verdict.{states_of, has, covers, is_within, is_small}
use Rattle.psi_log_words.proofs.NumberLemmas.{all_each, all_from}
use Rattle.psi_replay.proofs.ListLemmas.{same_test, all_more, all_fails, has-In, has-from_In}

-- the test of two states by code is that of the definition
pub below_test : (x y : List ℕ) (r : Bool) → (IsTrue r ↔ IsBelow x y) → r ≡ pointwise nat_le x y
below_test x y r tells = same_test r (pointwise nat_le x y) (λ is. below_again x y (tells.0 is)) (λ is. tells.1 (below_found x y is))

-- the test of the state at a place takes the loop one step on, or ends it
abbrev pub Tells : Bool → List ℕ → List (List ℕ) → ℕ → Type 0
Tells r caps xs i = MatchOption (slice_get xs i) ⊥ (λ (x : List ℕ). IsTrue r ↔ IsBelow x caps)

pub told_at : (o : Option (List ℕ)) (P : List ℕ → Type 0) → MatchOption o ⊥ P → (x : List ℕ) × (o ≡ Some x) × P x
told_at None P tells = absurd tells
told_at (Some x) P tells = (x, refl, tells)

pub within_more : (caps : List ℕ) (xs : List (List ℕ)) (i : ℕ) (r whole : Bool) → Tells r caps xs i → r ≡ true
    → list_all (λ (x : List ℕ). pointwise nat_le x caps) (drop i xs) ≡ whole → list_all (λ (x : List ℕ). pointwise nat_le x caps) (drop (i + 1) xs) ≡ whole
within_more caps xs i r whole tells passes so_far =
    let at = told_at (slice_get xs i) (λ (x : List ℕ). IsTrue r ↔ IsBelow x caps) tells in
    all_more (λ (x : List ℕ). pointwise nat_le x caps) xs i at.0 r whole at.1 (below_test at.0 caps r at.2) passes so_far

pub within_fails : (caps : List ℕ) (xs : List (List ℕ)) (i : ℕ) (r whole : Bool) → Tells r caps xs i → r ≡ false
    → list_all (λ (x : List ℕ). pointwise nat_le x caps) (drop i xs) ≡ whole → false ≡ whole
within_fails caps xs i r whole tells fails so_far =
    let at = told_at (slice_get xs i) (λ (x : List ℕ). IsTrue r ↔ IsBelow x caps) tells in
    all_fails (λ (x : List ℕ). pointwise nat_le x caps) xs i at.0 r whole at.1 (below_test at.0 caps r at.2) fails so_far

-- numbers that fit in each queue fit in their own
low_state : (caps x : List ℕ) (most : ℕ) → length x ≡ length caps → ((q : ℕ) → q < length caps → most ≤ slice_index caps q) → list_all (λ n. nat_le n most) x ≡ true
    → pointwise nat_le x caps ≡ true
low_state [] [] most same room low = refl
low_state [] (n ∷ x) most same room low = absurd cc
low_state (c ∷ caps) [] most same room low = absurd cc
low_state (c ∷ caps) (n ∷ x) most same room low =
    let parts = and_parts (nat_le n most) (list_all (λ k. nat_le k most) x) low in
    let small : n ≤ most = leb-true n most parts.0 in
    let most_fits : most ≤ c = room 0 (omega arith) in
    let first : nat_le n c ≡ true = le-leb n c (omega arith) in
    let rest_same : length x ≡ length caps = omega arith in
    let rest_room : (q : ℕ) → q < length caps → most ≤ slice_index caps q = λ q inside. room (suc q) (omega arith) in
    let rest : pointwise nat_le x caps ≡ true = low_state caps x most rest_same rest_room parts.1 in
    and_from (nat_le n c) (pointwise nat_le x caps) first rest

pub low_within : (caps : List ℕ) (xs : List (List ℕ)) (most : ℕ) → IsSet (length caps) xs → ((q : ℕ) → q < length caps → most ≤ slice_index caps q)
    → list_all (list_all (λ n. nat_le n most)) xs ≡ true → list_all (λ (x : List ℕ). pointwise nat_le x caps) xs ≡ true
low_within caps xs most is room low =
    all_from (λ (x : List ℕ). pointwise nat_le x caps) xs (λ x member. low_state caps x most (is.each x member).count room (all_each (list_all (λ n. nat_le n most)) xs x low member))

-- a box is within the capacities exactly where its upper corner is
pub box_within : (caps : List ℕ) (b : Corners) (hi : List ℕ) (r : Bool) → IsBelow b.lo b.hi → hi ≡ b.hi → (IsTrue r ↔ IsBelow hi caps) → r ≡ is_within caps (in_box b)
box_within caps b hi r ordered corner tells =
    let test : List ℕ → Bool = λ x. pointwise nat_le x caps in
    same_test r (is_within caps (in_box b))
    (λ is. (let below : IsBelow b.hi caps = subst (λ (x : List ℕ). IsBelow x caps) corner (tells.0 is) in
    all_from test (box b.lo b.hi) (λ x member. below_again x caps (below-through x b.hi caps (In-of_box b.lo b.hi x member).high below))))
    (λ all. tells.1 (subst (λ (x : List ℕ). IsBelow x caps) (sym corner)
    (below_found b.hi caps (all_each test (box b.lo b.hi) b.hi all (In-high b.lo b.hi ordered)))))

-- each state of a region that is within the capacities is
pub within_each : (caps : List ℕ) (region : LogRegion) (x : List ℕ) → is_within caps region ≡ true → In x (states_of region) → IsBelow x caps
within_each caps region x all member = below_found x caps (all_each (λ (y : List ℕ). pointwise nat_le y caps) (states_of region) x all member)

pub within_high : (caps : List ℕ) (b : Corners) → is_within caps (in_box b) ≡ true → IsBelow b.lo b.hi → IsBelow b.hi caps
within_high caps b all ordered = within_each caps (in_box b) b.hi all (In-high b.lo b.hi ordered)

-- the test of a box by its corners is that of its states
pub box_holds : (b : Corners) (x : List ℕ) (r : Bool) → (IsTrue r ↔ In x (box b.lo b.hi)) → r ≡ has (box b.lo b.hi) x
box_holds b x r tells = same_test r (has (box b.lo b.hi) x)
    (λ is. has-from_In (box b.lo b.hi) x (tells.0 is))
    (λ found. tells.1 (has-In (box b.lo b.hi) x found))

-- a set holds its states
pub covers_itself : (xs : List (List ℕ)) → covers unchanged (in_set xs) (in_set xs) ≡ true
covers_itself xs = all_from (λ (x : List ℕ). has xs x) xs (λ x member. has-from_In xs x member)

-- the test of a box by corners is that of what the function makes of its states
pub box_covers : (f : List ℕ → List ℕ) (b c : Corners) (r : Bool) → (IsTrue r ↔ Covers f (box b.lo b.hi) (box c.lo c.hi)) → r ≡ covers f (in_box b) (in_box c)
box_covers f b c r tells =
    let test : List ℕ → Bool = λ x. has (box c.lo c.hi) (f x) in
    same_test r (covers f (in_box b) (in_box c))
    (λ is. (let there = tells.0 is in all_from test (box b.lo b.hi) (λ x member. has-from_In (box c.lo c.hi) (f x) (there.each x member))))
    (λ all. tells.1 (record { each = λ x member. has-In (box c.lo c.hi) (f x) (all_each test (box b.lo b.hi) x all member) }))

-- a region covers itself where nothing changes, and may follow itself
pub region_covers_itself : (r : LogRegion) → covers unchanged r r ≡ true
region_covers_itself (in_box b) = covers_itself (box b.lo b.hi)
region_covers_itself (in_set xs) = covers_itself xs

pub small_itself : (r : LogRegion) → is_small r r ≡ true
small_itself (in_box b) = refl
small_itself (in_set xs) = refl
