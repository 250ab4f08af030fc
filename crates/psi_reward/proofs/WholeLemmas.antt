-- Integers: absolute values, products with a number, the lesser and the greater of two.
use Rattle.std.specs.Prelude.{◌≡◌, ℕ, ◌+◌, ◌-◌, ◌*◌, ◌<◌, ◌≤◌, ◌⊎◌, ℤ, pos, negsuc, ◌+ℤ◌, ◌*ℤ◌, ◌≤ℤ◌, unsigned_abs}
use Rattle.std.specs.Int.{int_min, int_max}
use Rattle.std.proofs.Common.{inl, inr, arith, mul-le-mul_left, rules}
use Rattle.std.proofs.Math.IntN.{negsuc-*ℤ-pos}
use Rattle.std.proofs.lemmas.Int.{ints, clamps, by_lt_z}

pub unsigned_abs-add : (a b : ℤ) → unsigned_abs (a +ℤ b) ≤ unsigned_abs a + unsigned_abs b
unsigned_abs-add a b = omega (arith, ints)

-- a sum that goes from the last place on stays within what is left for the places before
pub few-step : (place n : ℕ) (sum value rest : ℤ) → sum ≡ value +ℤ rest → unsigned_abs value ≤ 65535000000000 → 0 < place
    → unsigned_abs rest + place * 65535000000000 ≤ n * 65535000000000 → unsigned_abs sum + (place - 1) * 65535000000000 ≤ n * 65535000000000
few-step place n sum value rest is few some left = grind (arith, unsigned_abs-add)

pub int_min-left : (a b : ℤ) → int_min a b ≤ℤ a
int_min-left a b = omega (arith, ints, clamps)

pub int_min-right : (a b : ℤ) → int_min a b ≤ℤ b
int_min-right a b = omega (arith, ints, clamps)

pub int_max-left : (a b : ℤ) → a ≤ℤ int_max a b
int_max-left a b = omega (arith, ints, clamps)

pub int_max-right : (a b : ℤ) → b ≤ℤ int_max a b
int_max-right a b = omega (arith, ints, clamps)

pub int_min-is_left : (a b : ℤ) → a ≤ℤ b → int_min a b ≡ a
int_min-is_left a b below = omega (arith, ints, clamps)

pub int_min-is_right : (a b : ℤ) → b ≤ℤ a → int_min a b ≡ b
int_min-is_right a b below = omega (arith, ints, clamps)

pub int_max-is_left : (a b : ℤ) → b ≤ℤ a → int_max a b ≡ a
int_max-is_left a b below = omega (arith, ints, clamps)

pub int_max-is_right : (a b : ℤ) → a ≤ℤ b → int_max a b ≡ b
int_max-is_right a b below = omega (arith, ints, clamps)

pub int_max-monotone : (a b c d : ℤ) → a ≤ℤ c → b ≤ℤ d → int_max a b ≤ℤ int_max c d
int_max-monotone a b c d first second = omega (arith, ints, clamps)

pub int_min-monotone : (a b c d : ℤ) → a ≤ℤ c → b ≤ℤ d → int_min a b ≤ℤ int_min c d
int_min-monotone a b c d first second = omega (arith, ints, clamps)

-- one of two integers is the lesser
pub lesser : (a b : ℤ) → (a ≤ℤ b) ⊎ (b ≤ℤ a)
lesser a b = by_lt_z a b (λ less. inl (omega (arith, ints))) (λ more. inr more)

-- a weight that isn't negative rises with the number, one that is negative falls
pub weighted-rises : (n v w : ℕ) → v ≤ w → (pos n *ℤ pos v) ≤ℤ (pos n *ℤ pos w)
weighted-rises n v w ordered = search (rules, mul-le-mul_left)

pub weighted-falls : (n v w : ℕ) → v ≤ w → (negsuc n *ℤ pos w) ≤ℤ (negsuc n *ℤ pos v)
weighted-falls n v w ordered = search (rules, mul-le-mul_left, negsuc-*ℤ-pos)
