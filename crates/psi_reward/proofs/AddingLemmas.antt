-- Sums over the queues, place by place from the last on, and their least and greatest values.
use Rattle.std.specs.Prelude.{◌≡◌, ℕ, zero, suc, ◌+◌, ◌-◌, ◌<◌, ◌≤◌, ℤ, pos, negsuc, ◌+ℤ◌, ◌≤ℤ◌, List, ◌∷◌, length, map, drop, slice_index, slice_index_or, []}
use Rattle.std.specs.Int.{int_min, int_max}
use Rattle.std.proofs.Common.{sym, subst, arith, rules}
use Rattle.std.proofs.lemmas.Int.{ints}
use Rattle.psi_state.specs.Boxes.{IsBetween}
use Rattle.psi_state.proofs.BoxesLemmas.{below-head, below-tail, below-cons, below-itself}
use Rattle.psi_reward.specs.Held.{held}
use Rattle.psi_reward.specs.Sums.{weighted, added}
use Rattle.psi_reward.specs.Spans.{IsSpan, IsSpread}
use Rattle.psi_reward.proofs.WholeLemmas.{lesser, int_min-left, int_min-right, int_max-left, int_max-right, int_min-is_left, int_min-is_right, int_max-is_left, int_max-is_right, weighted-rises, weighted-falls}

-- the sum from a place on is that place's term and the sum after it
pub added-drop : {A : Type 0} (term : A → ℕ → ℤ) (parts : List A) (d : A) (queues x : List ℕ) (n : ℕ) → n < length queues → length parts ≡ length queues
    → added (map term (drop n parts)) (held (drop n queues) x)
    ≡ term (slice_index_or parts n d) (slice_index x (slice_index queues n)) +ℤ added (map term (drop (suc n) parts)) (held (drop (suc n) queues) x)
added-drop term (part ∷ parts) d (queue ∷ queues) x (suc n) small same = added-drop term parts d queues x n (omega arith) (omega arith)
added-drop term parts d queues x n small same = grind arith

pub added-none : {A : Type 0} (term : A → ℕ → ℤ) (parts : List A) (queues x : List ℕ) → length parts ≡ length queues
    → added (map term (drop (length queues) parts)) (held (drop (length queues) queues) x) ≡ pos 0
added-none term (part ∷ parts) (queue ∷ queues) x same = added-none term parts queues x (omega arith)
added-none term parts queues x same = grind arith

-- an empty sum is 0
pub spread-none : IsSpread (added []) [] [] (pos 0) (pos 0)
spread-none = search (rules, below-itself)

-- the least of a sum is the sum of the least values, and so is the greatest
pub spread-cons : (f : ℕ → ℤ) (l h : ℕ) (fs : List (ℕ → ℤ)) (ls hs : List ℕ) (a b low high : ℤ) → IsSpan f l h a b → IsSpread (added fs) ls hs low high
    → IsSpread (added (f ∷ fs)) (l ∷ ls) (h ∷ hs) (a +ℤ low) (b +ℤ high)
spread-cons f l h fs ls hs a b low high span spread = record {
  above = above;
  below = below;
  low_at =
      (let first = span.low_at in let rest = spread.low_at in
      let one : f first.0 ≡ a = first.3 in let two : added fs rest.0 ≡ low = rest.2 in
      (first.0 ∷ rest.0, record { low = below-cons l ls first.0 rest.0 first.1 rest.1.low; high = below-cons first.0 rest.0 h hs first.2 rest.1.high }, cc));
  high_at =
      (let first = span.high_at in let rest = spread.high_at in
      let one : f first.0 ≡ b = first.3 in let two : added fs rest.0 ≡ high = rest.2 in
      (first.0 ∷ rest.0, record { low = below-cons l ls first.0 rest.0 first.1 rest.1.low; high = below-cons first.0 rest.0 h hs first.2 rest.1.high }, cc));
}
  where
    above : (vs : List ℕ) → IsBetween (l ∷ ls) (h ∷ hs) vs → (a +ℤ low) ≤ℤ added (f ∷ fs) vs
    above [] between = absurd (let e : suc (length ls) ≡ 0 = between.low.same_length in omega arith)
    above (v ∷ vs) between =
        let first : a ≤ℤ f v = span.above v (below-head l ls v vs between.low) (below-head v vs h hs between.high) in
        let rest : low ≤ℤ added fs vs = spread.above vs (record { low = below-tail l ls v vs between.low; high = below-tail v vs h hs between.high }) in
        omega (arith, ints)

    below : (vs : List ℕ) → IsBetween (l ∷ ls) (h ∷ hs) vs → added (f ∷ fs) vs ≤ℤ (b +ℤ high)
    below [] between = absurd (let e : suc (length ls) ≡ 0 = between.low.same_length in omega arith)
    below (v ∷ vs) between =
        let first : f v ≤ℤ b = span.below v (below-head l ls v vs between.low) (below-head v vs h hs between.high) in
        let rest : added fs vs ≤ℤ high = spread.below vs (record { low = below-tail l ls v vs between.low; high = below-tail v vs h hs between.high }) in
        omega (arith, ints)

-- so from a place on, by that place's term
pub spread-drop : {A : Type 0} (term : A → ℕ → ℤ) (parts : List A) (d : A) (queues x y : List ℕ) (n : ℕ) (a b low high : ℤ) → n < length queues → length parts ≡ length queues
    → IsSpan (term (slice_index_or parts n d)) (slice_index x (slice_index queues n)) (slice_index y (slice_index queues n)) a b
    → IsSpread (added (map term (drop (suc n) parts))) (held (drop (suc n) queues) x) (held (drop (suc n) queues) y) low high
    → IsSpread (added (map term (drop n parts))) (held (drop n queues) x) (held (drop n queues) y) (a +ℤ low) (b +ℤ high)
spread-drop term (part ∷ parts) d (queue ∷ queues) x y zero a b low high small same span spread = search (rules, spread-cons)
spread-drop term (part ∷ parts) d (queue ∷ queues) x y (suc n) a b low high small same span spread =
    spread-drop term parts d queues x y n a b low high (omega arith) (omega arith) span spread
spread-drop term parts d queues x y n a b low high small same span spread = absurd (omega arith)

pub spread-end : {A : Type 0} (term : A → ℕ → ℤ) (parts : List A) (queues x y : List ℕ) → length parts ≡ length queues
    → IsSpread (added (map term (drop (length queues) parts))) (held (drop (length queues) queues) x) (held (drop (length queues) queues) y) (pos 0) (pos 0)
spread-end term [] [] x y same = spread-none
spread-end term (part ∷ parts) (queue ∷ queues) x y same = spread-end term parts queues x y (omega arith)
spread-end term parts queues x y same = absurd (omega arith)

-- the values at two of the numbers are below all and above all
span-ends : (f : ℕ → ℤ) (l h a b : ℕ) (low high : ℤ) → (l ≤ a) × (a ≤ h) → (l ≤ b) × (b ≤ h) → low ≡ f a → high ≡ f b → ((v : ℕ) → l ≤ v → v ≤ h → f a ≤ℤ f v)
    → ((v : ℕ) → l ≤ v → v ≤ h → f v ≤ℤ f b) → IsSpan f l h low high
span-ends f l h a b low high first last low_is high_is above below = search rules

-- a number of customers with a weight is least and greatest at the ends
pub weighted-span : (weight : ℤ) (l h : ℕ) → l ≤ h
    → IsSpan (weighted weight) l h (int_min (weighted weight l) (weighted weight h)) (int_max (weighted weight l) (weighted weight h))
weighted-span (pos n) l h ordered = search (rules, weighted-rises, span-ends, int_min-is_left, int_max-is_right)
weighted-span (negsuc n) l h ordered = search (rules, weighted-falls, span-ends, int_min-is_right, int_max-is_left)

-- the same in the words of a loop that goes from the last place to the first
pub sum-step : {A : Type 0} (term : A → ℕ → ℤ) (parts : List A) (d : A) (queues x : List ℕ) (place : ℕ) (value sum : ℤ) → 0 < place → place ≤ length queues → length parts ≡ length queues
    → value ≡ term (slice_index_or parts (place - 1) d) (slice_index x (slice_index queues (place - 1)))
    → sum ≡ added (map term (drop place parts)) (held (drop place queues) x)
    → value +ℤ sum ≡ added (map term (drop (place - 1) parts)) (held (drop (place - 1) queues) x)
sum-step term parts d queues x place value sum some within same value_is is = grind (arith, added-drop)

pub spread-step : {A : Type 0} (term : A → ℕ → ℤ) (parts : List A) (d : A) (queues x y : List ℕ) (place : ℕ) (a b low high : ℤ) → 0 < place → place ≤ length queues → length parts ≡ length queues
    → IsSpan (term (slice_index_or parts (place - 1) d)) (slice_index x (slice_index queues (place - 1))) (slice_index y (slice_index queues (place - 1))) a b
    → IsSpread (added (map term (drop place parts))) (held (drop place queues) x) (held (drop place queues) y) low high
    → IsSpread (added (map term (drop (place - 1) parts))) (held (drop (place - 1) queues) x) (held (drop (place - 1) queues) y) (a +ℤ low) (b +ℤ high)
spread-step term parts d queues x y zero a b low high some within same span spread = absurd (omega arith)
spread-step term parts d queues x y (suc n) a b low high some within same span spread =
    let e : suc n - 1 ≡ n = omega arith in
    let at = rw e at span in
    rw e (spread-drop term parts d queues x y n a b low high (omega arith) same at spread)

-- at the loop's start nothing is added yet, and at its end all is
pub sum-start : {A : Type 0} (term : A → ℕ → ℤ) (parts : List A) (queues x : List ℕ) (place : ℕ) → place ≡ length queues → length parts ≡ length queues
    → pos 0 ≡ added (map term (drop place parts)) (held (drop place queues) x)
sum-start term parts queues x place is same = grind (arith, added-none)

pub spread-start : {A : Type 0} (term : A → ℕ → ℤ) (parts : List A) (queues x y : List ℕ) (place : ℕ) → place ≡ length queues → length parts ≡ length queues
    → IsSpread (added (map term (drop place parts))) (held (drop place queues) x) (held (drop place queues) y) (pos 0) (pos 0)
spread-start term parts queues x y place is same = grind (arith, spread-end term parts queues x y same)

pub spread-whole : {A : Type 0} (term : A → ℕ → ℤ) (parts : List A) (queues x y : List ℕ) (place : ℕ) (low high : ℤ) → place ≡ 0
    → IsSpread (added (map term (drop place parts))) (held (drop place queues) x) (held (drop place queues) y) low high
    → IsSpread (added (map term parts)) (held queues x) (held queues y) low high
spread-whole term parts queues x y place low high is spread = search rules

-- a span at numbers that are computed otherwise
pub span-same : (f : ℕ → ℤ) (l h : ℕ) (low high a b : ℤ) → a ≡ low → b ≡ high → IsSpan f l h low high → IsSpan f l h a b
span-same f l h low high a b first last span = subst (λ z. IsSpan f l h z b) (sym first) (subst (λ z. IsSpan f l h low z) (sym last) span)

pub spread-same : (f : List ℕ → ℤ) (ls hs : List ℕ) (low high a b : ℤ) → a ≡ low → b ≡ high → IsSpread f ls hs low high → IsSpread f ls hs a b
spread-same f ls hs low high a b first last spread = subst (λ z. IsSpread f ls hs z b) (sym first) (subst (λ z. IsSpread f ls hs low z) (sym last) spread)

-- one number more
pub span-more : (f : ℕ → ℤ) (l h : ℕ) (low high : ℤ) → l ≤ h → IsSpan f l h low high → IsSpan f l (h + 1) (int_min low (f (h + 1))) (int_max high (f (h + 1)))
span-more f l h low high ordered span =
    grind (arith, ints, int_min-left low (f (h + 1)), int_min-right low (f (h + 1)), int_max-left high (f (h + 1)), int_max-right high (f (h + 1)), lesser low (f (h + 1)), lesser (f (h + 1)) high)

-- and one of a part and at ends that are given otherwise
pub span-at : {A : Type 0} (term : A → ℕ → ℤ) (p q : A) (l m h k : ℕ) (a b : ℤ) → p ≡ q → l ≡ m → h ≡ k → IsSpan (term p) l h a b → IsSpan (term q) m k a b
span-at term p q l m h k a b part low high span = search rules
