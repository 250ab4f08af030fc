-- The greatest and the least number held, and how many are above a level, rise with the numbers: so their ranges are those of the corners.
use Rattle.std.specs.Prelude.{◌≡◌, ℕ, suc, ◌+◌, ◌≤◌, ℤ, pos, ◌≤ℤ◌, List, ◌∷◌, length, map, count_by, nat_lt, cond, refl, []}
use Rattle.std.specs.Int.{int_min, int_max}
use Rattle.std.proofs.Common.{arith, lt-ltb, le-ltb}
use Rattle.std.proofs.lemmas.Bool.{cases_lt}
use Rattle.std.proofs.lemmas.Int.{ints}
use Rattle.std.proofs.lemmas.List.Sums.{sum_by-cons}
use Rattle.psi_state.specs.State.{IsBelow}
use Rattle.psi_state.proofs.BoxesLemmas.{below-head, below-tail, below-itself}
use Rattle.psi_reward.specs.Ranges.{least, greatest}
use Rattle.psi_reward.specs.Spans.{IsSpread}
use Rattle.psi_reward.proofs.WholeLemmas.{int_min-monotone, int_max-monotone}

-- the function rises with the numbers
pub record IsRising (f : List ℕ → ℤ) : Type 0 where
  pub each : (vs ws : List ℕ) → IsBelow vs ws → f vs ≤ℤ f ws

-- so its least and greatest values are those of the corners
pub spread-rising : (f : List ℕ → ℤ) (ls hs : List ℕ) → IsRising f → IsBelow ls hs → IsSpread f ls hs (f ls) (f hs)
spread-rising f ls hs rising ordered = grind (arith, below-itself)

-- what joins the first number with that of the rest rises with the numbers
joined-below : (f : List ℤ → ℤ) (join : ℤ → ℤ → ℤ) → ((z : ℤ) → f (z ∷ []) ≡ z) → ((z y : ℤ) (ys : List ℤ) → f (z ∷ y ∷ ys) ≡ join z (f (y ∷ ys)))
    → ((a b c d : ℤ) → a ≤ℤ c → b ≤ℤ d → join a b ≤ℤ join c d) → (vs ws : List ℕ) → IsBelow vs ws → f (map pos vs) ≤ℤ f (map pos ws)
joined-below f join one more monotone [] [] below = omega (arith, ints)
joined-below f join one more monotone (v ∷ []) (w ∷ []) below = grind (arith, ints, below-head v [] w [] below)
joined-below f join one more monotone (v ∷ u ∷ vs) (w ∷ t ∷ ws) below =
    let rest = below-tail v (u ∷ vs) w (t ∷ ws) below in
    grind (arith, ints, below-head v (u ∷ vs) w (t ∷ ws) below, joined-below f join one more monotone (u ∷ vs) (t ∷ ws) rest)
joined-below f join one more monotone vs ws below = absurd (omega (arith, below.same_length))

greatest-below : (vs ws : List ℕ) → IsBelow vs ws → greatest (map pos vs) ≤ℤ greatest (map pos ws)
greatest-below vs ws below = joined-below greatest int_max (λ z. refl) (λ z y ys. refl) int_max-monotone vs ws below

least-below : (vs ws : List ℕ) → IsBelow vs ws → least (map pos vs) ≤ℤ least (map pos ws)
least-below vs ws below = joined-below least int_min (λ z. refl) (λ z y ys. refl) int_min-monotone vs ws below

count-cons : (level v : ℕ) (vs : List ℕ) → count_by (λ n. nat_lt level n) (v ∷ vs) ≡ cond (nat_lt level v) 1 0 + count_by (λ n. nat_lt level n) vs
count-cons level v vs = sum_by-cons (λ n. cond (nat_lt level n) 1 0) v vs

one-below : (level v w : ℕ) → v ≤ w → cond (nat_lt level v) 1 0 ≤ cond (nat_lt level w) 1 0
one-below level v w ordered = grind (arith, cases_lt, lt-ltb, le-ltb)

count-below : (level : ℕ) (vs ws : List ℕ) → IsBelow vs ws → count_by (λ n. nat_lt level n) vs ≤ count_by (λ n. nat_lt level n) ws
count-below level [] ws below = omega arith
count-below level (v ∷ vs) [] below = absurd (let e : suc (length vs) ≡ 0 = below.same_length in omega arith)
count-below level (v ∷ vs) (w ∷ ws) below =
    grind (arith, count-below level vs ws (below-tail v vs w ws below), one-below level v w (below-head v vs w ws below), count-cons level v vs, count-cons level w ws)

pub greatest-rising : IsRising (λ vs. greatest (map pos vs))
greatest-rising = record { each = greatest-below }

pub least-rising : IsRising (λ vs. least (map pos vs))
least-rising = record { each = least-below }

pub count-rising : (level : ℕ) → IsRising (λ vs. pos (count_by (λ n. nat_lt level n) vs))
count-rising level = record { each = λ vs ws below. (let more = count-below level vs ws below in omega (arith, ints, more)) }
