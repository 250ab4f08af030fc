-- Searching for keys that cross.
use Rattle.std.proofs.Common.{◌≡◌, ℕ, ◌+◌, ◌*◌, ◌<◌, ◌≤◌, [], length, get_or, slice_index, Option, Some, None, is_some, is_none, Bool, true, false, not, refl, sym, arith}
use Rattle.psi_event.specs.Choice.{first_some}
use Rattle.psi_event.proofs.ChoiceLemmas.{first_some-none, first_some-found}
use Rattle.psi_index.specs.Extremes.{IsRising}
use Rattle.psi_route.specs.Routing.{Shape, routing, weight, crosses, pair_of, pair_at, pair_from, pair_between, pair_behind, first_pair}
use Rattle.psi_route.proofs.ActingLemmas.{then_some-false}
use Rattle.psi_route.specs.Accepted.{IsRouteShape}
use Rattle.psi_route.proofs.UpsetLemmas.{not-crosses}
use Rattle.psi_route.proofs.PlainLemmas.{weight-none}

-- the first answer, as a loop finds it
pub search-found : {A : Type 0} (f : ℕ → Option A) (n i : ℕ) (o : Option A) (b : Bool) → i < n → o ≡ f i → b ≡ is_some o → b ≡ true
    → ((j : ℕ) → j < i → f j ≡ None) → o ≡ first_some f 0 n
search-found f n i None b small is tells there before = absurd cc
search-found f n i (Some a) b small is tells there before = sym (first_some-found f 0 n i a (omega arith) (omega arith) (sym is) (λ j low less. before j less))

pub search-none : {A : Type 0} (f : ℕ → Option A) (n m : ℕ) → n ≤ m → ((j : ℕ) → j < m → f j ≡ None) → None ≡ first_some f 0 n
search-none f n m all each = sym (first_some-none f 0 n (λ i low high. each i (omega arith)))

-- an answer that isn't there
pub none-there : {A : Type 0} (o p : Option A) (b : Bool) → o ≡ p → b ≡ is_some o → b ≡ false → p ≡ None
none-there None p b is tells absent = sym is
none-there (Some a) p b is tells absent = absurd cc

-- no keys cross where the value doesn't fall
pub level-none : (s : Shape) (a b v : ℕ) → a < length s.targets → b < length s.targets
    → ((v + 1 < slice_index s.caps (slice_index s.targets a)) × (weight s a (v + 1) < weight s a v) → ⊥) → pair_from s a b v ≡ None
unfolding pair_from
level-none s a b v first second level =
    first_some-none (λ w. pair_at s a b v w) 0 (slice_index s.caps (slice_index s.targets b)) (λ w low high.
    then_some-false (crosses (routing s) a b v w) (pair_of s a b v w)
    (not-crosses (routing s) a b v w first second (λ cross.
    (let falls : 32 * weight s a (v + 1) + a < 32 * weight s b w + b = cross.falls in
    let above : 32 * weight s b w + b < 32 * weight s a v + a = cross.above in
    level (cross.room, omega arith)))))

-- nor where it rises throughout
pub rising-none : (s : Shape) (a : ℕ) → IsRouteShape s → a < length s.targets → 0 < length s.tables → IsRising (get_or s.tables a []) → pair_behind s a ≡ None
unfolding pair_behind pair_between
rising-none s a is place some rising =
    first_some-none (λ b. pair_between s a b) 0 (length s.targets) (λ b low high.
    first_some-none (λ v. pair_from s a b v) 0 (slice_index s.caps (slice_index s.targets a)) (λ v least most.
    level-none s a b v place (omega arith) (λ fall.
    (let count : length s.tables ≡ length s.targets = is.tabled some in
    let long : length (get_or s.tables a []) ≡ slice_index s.caps (slice_index s.targets a) = is.fitted a (omega arith) in
    let room : v + 1 < slice_index s.caps (slice_index s.targets a) = fall.0 in
    let less : slice_index (get_or s.tables a []) (v + 1) < slice_index (get_or s.tables a []) v = fall.1 in
    let more : slice_index (get_or s.tables a []) v ≤ slice_index (get_or s.tables a []) (v + 1) = rising.each v (omega arith) in
    absurd (omega arith)))))

-- nor without tables
pub plain-none : (s : Shape) → length s.tables ≡ 0 → first_pair s ≡ None
unfolding first_pair pair_behind pair_between
plain-none s plain =
    first_some-none (λ a. pair_behind s a) 0 (length s.targets) (λ a low_a high_a.
    first_some-none (λ b. pair_between s a b) 0 (length s.targets) (λ b low high.
    first_some-none (λ v. pair_from s a b v) 0 (slice_index s.caps (slice_index s.targets a)) (λ v least most.
    level-none s a b v (omega arith) (omega arith) (λ fall.
    (let next : weight s a (v + 1) ≡ 0 = weight-none s a (v + 1) plain in
    let own : weight s a v ≡ 0 = weight-none s a v plain in
    let less : weight s a (v + 1) < weight s a v = fall.1 in
    absurd (omega arith))))))

-- an answer isn't there where it is none
pub absent-is : {A : Type 0} (o : Option A) (b : Bool) → is_some o ≡ not b → b ≡ is_none o
absent-is None true tells = refl
absent-is None false tells = absurd cc
absent-is (Some a) true tells = absurd cc
absent-is (Some a) false tells = refl
