-- Integers between 0 and a bound, as natural numbers.
use Rattle.std.specs.Prelude.{◌≡◌, ℕ, ◌≤◌, ℤ, pos, ◌≤ℤ◌, List, [], ◌∷◌, map, unsigned_abs, All, refl}
use Rattle.std.proofs.Common.{ap, ◌∙◌, arith}
use Rattle.std.proofs.lemmas.Int.{ints, clamps}
use Rattle.std.proofs.lemmas.List.Elements.{All-nil, All-cons}
use Rattle.psi_reward.specs.Ranges.{least, greatest}

-- the natural numbers, none above a bound, that integers are
pub record AreNumbers (most : ℕ) (zs : List ℤ) : Type 0 where
  pub numbers : List ℕ
  pub same : map pos numbers ≡ zs
  pub few : All (λ v. v ≤ most) numbers

with-number : (most : ℕ) (z : ℤ) (zs : List ℤ) → pos 0 ≤ℤ z → z ≤ℤ pos most → AreNumbers most zs → AreNumbers most (z ∷ zs)
with-number most z zs low high are =
    let here : pos (unsigned_abs z) ≡ z = omega (arith, ints) in
    record {
      numbers = unsigned_abs z ∷ are.numbers;
      same = ap (λ y. y ∷ map pos are.numbers) here ∙ ap (λ ys. z ∷ ys) are.same;
      few = All-cons (λ v. v ≤ most) (unsigned_abs z) are.numbers (omega (arith, ints)) are.few;
    }

pub between : (most : ℕ) (z : ℤ) (zs : List ℤ) → pos 0 ≤ℤ least (z ∷ zs) → greatest (z ∷ zs) ≤ℤ pos most → AreNumbers most (z ∷ zs)
between most z [] low high = with-number most z [] low high (record { numbers = []; same = refl; few = All-nil (λ v. v ≤ most) })
between most z (y ∷ ys) low high =
    with-number most z (y ∷ ys) (omega (arith, ints, clamps)) (omega (arith, ints, clamps)) (between most y ys (omega (arith, ints, clamps)) (omega (arith, ints, clamps)))
