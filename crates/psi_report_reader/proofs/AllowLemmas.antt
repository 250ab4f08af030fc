-- The sum of values is such as their least and their greatest allow.
use Rattle.std.specs.Prelude.{◌≡◌, ℕ, zero, suc, ◌-◌, ℤ, pos, ◌+ℤ◌, ◌*ℤ◌, ◌≤ℤ◌, List, [], ◌∷◌, length, int_le, ◌&&◌, true, refl}
use Rattle.std.specs.Int.{int_min, int_max}
use Rattle.std.proofs.Common.{arith}
use Rattle.std.proofs.lemmas.Int.{ints, clamps}
use Rattle.std.proofs.Math.IntN.{suc_ℤ-*ℤ}
use Rattle.psi_reward.specs.Ranges.{least, greatest}
use Rattle.psi_report.specs.Quantities.{sum_of}
use Rattle.psi_report_reader.specs.Sound.{allows}

pub times-more : (k : ℕ) (a : ℤ) → pos (suc k) *ℤ a ≡ a +ℤ (pos k *ℤ a)
times-more k a = (let e = suc_ℤ-*ℤ (pos k) a in omega (arith, ints))

pub times-rises : (k : ℕ) (a b : ℤ) → a ≤ℤ b → (pos k *ℤ a) ≤ℤ (pos k *ℤ b)
times-rises zero a b rise = omega (arith, ints)
times-rises (suc k) a b rise = rw (times-more k a, times-more k b) (let rest = times-rises k a b rise in omega (arith, ints))

-- the sum of n values and one more lies between those of all but one least or greatest
pub record IsAllowed (n : ℕ) (low high sum : ℤ) : Type 0 where
  pub order : low ≤ℤ high
  pub least : (pos n *ℤ low +ℤ high) ≤ℤ sum
  pub most : sum ≤ℤ (pos n *ℤ high +ℤ low)

allowed-more : (k : ℕ) (z low high sum : ℤ) → IsAllowed k low high sum → IsAllowed (suc k) (int_min z low) (int_max z high) (z +ℤ sum)
allowed-more k z low high sum is =
    let down = times-rises k (int_min z low) low (omega (arith, ints, clamps)) in
    let up = times-rises k high (int_max z high) (omega (arith, ints, clamps)) in
    record { order = omega (arith, ints, clamps); least = rw (times-more k (int_min z low)) (omega (arith, ints, clamps)); most = rw (times-more k (int_max z high)) (omega (arith, ints, clamps)) }

pub allowed : (z : ℤ) (zs : List ℤ) → IsAllowed (length zs) (least (z ∷ zs)) (greatest (z ∷ zs)) (sum_of (z ∷ zs))
unfolding sum_of
allowed z [] = record { order = omega (arith, ints); least = omega (arith, ints); most = omega (arith, ints) }
allowed z (y ∷ ys) = allowed-more (length ys) z (least (y ∷ ys)) (greatest (y ∷ ys)) (sum_of (y ∷ ys)) (allowed y ys)

pub ordered : (low high : ℤ) → low ≤ℤ high → int_le low high ≡ true
ordered low high order = grind (arith, ints)

pub allows-allowed : (n : ℕ) (low high sum : ℤ) → IsAllowed n low high sum → allows (suc n) low high sum ≡ true
allows-allowed n low high sum is =
    let count : suc n - 1 ≡ n = omega arith in
    rw (count, ordered (pos n *ℤ low +ℤ high) sum is.least, ordered sum (pos n *ℤ high +ℤ low) is.most) refl

pub allows-back : (n : ℕ) (low high sum : ℤ) → low ≤ℤ high → allows (suc n) low high sum ≡ true → IsAllowed n low high sum
allows-back n low high sum order is =
    let count : suc n - 1 ≡ n = omega arith in
    let bounds : (int_le (pos n *ℤ low +ℤ high) sum && int_le sum (pos n *ℤ high +ℤ low)) ≡ true = rw count at is in
    record { order = order; least = grind (arith, ints); most = grind (arith, ints) }
