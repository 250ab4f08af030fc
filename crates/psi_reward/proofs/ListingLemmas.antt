-- The numbers that the states of a box hold in distinct queues: all lists between those of its corners.
use Rattle.std.specs.Prelude.{◌≡◌, ℕ, suc, ◌<◌, ◌≤◌, ℤ, List, ◌∷◌, length, slice_index, slice_set, All, false, nat_eq, refl, []}
use Rattle.std.specs.List.{list_any}
use Rattle.std.proofs.Common.{inl, inr, ◌∙◌, arith}
use Rattle.std.proofs.lemmas.Bool.{eqb-false, or_parts}
use Rattle.std.proofs.lemmas.List.{get_or-set_same, get_or-set_other}
use Rattle.std.proofs.lemmas.Grind.{common_steps}
use Rattle.psi_state.specs.State.{IsBelow, box}
use Rattle.psi_state.specs.Members.{In}
use Rattle.psi_state.specs.Repeats.{repeats}
use Rattle.psi_state.specs.Boxes.{IsBetween}
use Rattle.psi_state.proofs.BoxesLemmas.{set-between, In-box, In-of_box, below-head, below-tail, below-cons, below-itself}
use Rattle.psi_reward.specs.Held.{held}
use Rattle.psi_reward.specs.Ranges.{IsReached}
use Rattle.psi_reward.specs.Spans.{IsSpread, IsRange}

-- each of these queues is below n
pub record AreListed (n : ℕ) (queues : List ℕ) : Type 0 where
  pub each : (queue : ℕ) → In queue queues → queue < n

pub listed-tail : (n queue : ℕ) (queues : List ℕ) → AreListed n (queue ∷ queues) → AreListed n queues
listed-tail n queue queues listed = record { each = λ q member. listed.each q (inr member) }

pub listed-from_All : (n : ℕ) (queues : List ℕ) → All (λ queue. queue < n) queues → AreListed n queues
listed-from_All n [] all = record { each = λ q member. absurd member }
listed-from_All n (queue ∷ queues) all =
    let first : queue < n = all 0 0 (omega arith) in
    let rest : All (λ q. q < n) queues = λ k d small. all (suc k) d (omega arith) in
    let tail = listed-from_All n queues rest in
    record { each = λ q member. elim member [ inl e ↦ (let s : queue < n = first in omega arith) | inr t ↦ tail.each q t ] }

-- the lists of numbers held are in the order of the states
pub held-below : (queues x y : List ℕ) → AreListed (length x) queues → IsBelow x y → IsBelow (held queues x) (held queues y)
held-below [] x y listed below = below-itself []
held-below (queue ∷ queues) x y listed below =
    below-cons (slice_index x queue) (held queues x) (slice_index y queue) (held queues y)
    (below.each queue (listed.each queue (inl refl))) (held-below queues x y (listed-tail (length x) queue queues listed) below)

-- a queue that isn't listed can hold anything
held-set : (queues x : List ℕ) (queue v : ℕ) → list_any (λ p. nat_eq p queue) queues ≡ false → held queues (slice_set x queue v) ≡ held queues x
held-set [] x queue v none = refl
held-set (q ∷ queues) x queue v none =
    let parts = or_parts (nat_eq q queue) (list_any (λ p. nat_eq p queue) queues) none in
    let rest : held queues (slice_set x queue v) ≡ held queues x = held-set queues x queue v parts.1 in
    let first : slice_index (slice_set x queue v) q ≡ slice_index x q = get_or-set_other x queue q v 0 (eqb-false q queue parts.0) in
    cc

-- each list between those of the corners is what some state of the box holds
pub held-all : (queues l h vs : List ℕ) → repeats queues ≡ false → AreListed (length l) queues → IsBelow l h
    → IsBetween (held queues l) (held queues h) vs → (x : List ℕ) × IsBetween l h x × (held queues x ≡ vs)
held-all [] l h [] once listed ordered between = (l, record { low = below-itself l; high = ordered }, refl)
held-all [] l h (v ∷ vs) once listed ordered between = absurd (let e : 0 ≡ suc (length vs) = between.low.same_length in omega arith)
held-all (queue ∷ queues) l h [] once listed ordered between = absurd (let e : suc (length (held queues l)) ≡ 0 = between.low.same_length in omega arith)
held-all (queue ∷ queues) l h (v ∷ vs) once listed ordered between =
    let parts = or_parts (list_any (λ p. nat_eq p queue) queues) (repeats queues) once in
    let low : slice_index l queue ≤ v = below-head (slice_index l queue) (held queues l) v vs between.low in
    let high : v ≤ slice_index h queue = below-head v vs (slice_index h queue) (held queues h) between.high in
    let found = held-all queues l h vs parts.1 (listed-tail (length l) queue queues listed) ordered (record {
      low = below-tail (slice_index l queue) (held queues l) v vs between.low;
      high = below-tail v vs (slice_index h queue) (held queues h) between.high;
    }) in
    let small : queue < length l = listed.each queue (inl refl) in
    let count : length l ≡ length found.0 = found.1.low.same_length in
    let own : slice_index (slice_set found.0 queue v) queue ≡ v = get_or-set_same found.0 queue v 0 (omega arith) in
    let rest : held queues (slice_set found.0 queue v) ≡ vs = held-set queues found.0 queue v parts.0 ∙ found.2 in
    (slice_set found.0 queue v, set-between l h found.0 queue v found.1 small low high, cc)

reached-from : (f : List ℕ → ℤ) (queues l h : List ℕ) (z : ℤ) → repeats queues ≡ false → AreListed (length l) queues → IsBelow l h
    → (vs : List ℕ) → IsBetween (held queues l) (held queues h) vs → f vs ≡ z → IsReached (λ x. f (held queues x)) (box l h) z
reached-from f queues l h z once listed ordered vs between is = grind (arith, held-all, In-box)

held-between : (queues l h x : List ℕ) → AreListed (length l) queues → In x (box l h) → IsBetween (held queues l) (held queues h) (held queues x)
held-between queues l h x listed member =
    let between = In-of_box l h x member in
    let count : length l ≡ length x = between.low.same_length in
    grind (arith, common_steps, held-below)

-- so the range of a function of the numbers held is that of the function between the numbers that the corners hold
pub range-from_spread : (f : List ℕ → ℤ) (queues l h : List ℕ) (low high : ℤ) → repeats queues ≡ false → AreListed (length l) queues → IsBelow l h
    → IsSpread f (held queues l) (held queues h) low high → IsRange (λ x. f (held queues x)) (box l h) low high
range-from_spread f queues l h low high once listed ordered spread = record {
  above = λ x member. spread.above (held queues x) (held-between queues l h x listed member);
  below = λ x member. spread.below (held queues x) (held-between queues l h x listed member);
  low_at = reached-from f queues l h low once listed ordered spread.low_at.0 spread.low_at.1 spread.low_at.2;
  high_at = reached-from f queues l h high once listed ordered spread.high_at.0 spread.high_at.1 spread.high_at.2;
}
