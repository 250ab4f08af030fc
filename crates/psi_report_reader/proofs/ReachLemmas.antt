-- Values with a least, a greatest and a sum that these allow.
use Rattle.std.specs.Prelude.{◌≡◌, ℕ, zero, suc, ℤ, pos, ◌+ℤ◌, ◌-ℤ◌, ◌*ℤ◌, ◌≤ℤ◌, List, [], ◌∷◌, length, All, refl}
use Rattle.std.proofs.Common.{ap, ◌∙◌, arith}
use Rattle.std.proofs.lemmas.Int.{ints, clamps, by_lt_z}
use Rattle.std.proofs.lemmas.List.Elements.{All-nil, All-cons}
use Rattle.psi_reward.specs.Ranges.{least, greatest}
use Rattle.psi_report.specs.Quantities.{sum_of}
use Rattle.psi_report_reader.specs.Sound.{AreSummed, SumsAreReached}
use Rattle.psi_report_reader.proofs.AllowLemmas.{times-more, times-rises, allows-back}
use Rattle.psi_report_reader.proofs.WorthLemmas.{least-has, greatest-has}

-- so many values between two, with a sum
record Filled (m : ℕ) (low high sum : ℤ) : Type 0 where
  values : List ℤ
  count : length values ≡ m
  above : All (λ v. low ≤ℤ v) values
  below : All (λ v. v ≤ℤ high) values
  summed : sum_of values ≡ sum

with-one : (m : ℕ) (low high v rest sum : ℤ) → low ≤ℤ v → v ≤ℤ high → v +ℤ rest ≡ sum → Filled m low high rest → Filled (suc m) low high sum
unfolding sum_of
with-one m low high v rest sum first last whole is = record {
  values = v ∷ is.values;
  count = ap suc is.count;
  above = All-cons (λ z. low ≤ℤ z) v is.values first is.above;
  below = All-cons (λ z. z ≤ℤ high) v is.values last is.below;
  summed = ap (λ z. v +ℤ z) is.summed ∙ whole;
}

-- the next value is as high as may be, or as high as the low ones after it leave it
fill : (m : ℕ) (low high sum : ℤ) → low ≤ℤ high → (pos m *ℤ low) ≤ℤ sum → sum ≤ℤ (pos m *ℤ high) → Filled m low high sum
unfolding sum_of
fill zero low high sum order least most =
    record { values = []; count = refl; above = All-nil (λ v. low ≤ℤ v); below = All-nil (λ v. v ≤ℤ high); summed = omega (arith, ints) }
fill (suc m) low high sum order least most =
    let from = rw (times-more m low) at least in
    let to = rw (times-more m high) at most in
    by_lt_z high (sum -ℤ (pos m *ℤ low))
    (λ less. with-one m low high high (sum -ℤ high) sum order (omega (arith, ints)) (omega (arith, ints)) (fill m low high (sum -ℤ high) order (omega (arith, ints)) (omega (arith, ints))))
    (λ more. with-one m low high (sum -ℤ (pos m *ℤ low)) (pos m *ℤ low) sum (omega (arith, ints)) more (omega (arith, ints))
    (fill m low high (pos m *ℤ low) order (omega (arith, ints)) (times-rises m low high order)))

-- the first value isn't above the greatest
first-most : (z : ℤ) (zs : List ℤ) → z ≤ℤ greatest (z ∷ zs)
first-most z [] = omega (arith, ints)
first-most z (y ∷ ys) = omega (arith, ints, clamps)

both-ends : (m : ℕ) (low high sum rest : ℤ) → low ≤ℤ high → low +ℤ (high +ℤ rest) ≡ sum → Filled m low high rest → (values : List ℤ) × AreSummed (suc (suc m)) low high sum values
unfolding sum_of
both-ends m low high sum rest order whole is =
    let behind = All-cons (λ z. low ≤ℤ z) high is.values order is.above in
    let before = All-cons (λ z. z ≤ℤ high) high is.values (omega (arith, ints)) is.below in
    let bottom : low ≤ℤ least (high ∷ is.values) = least-has (λ z. low ≤ℤ z) high is.values behind in
    let top : greatest (high ∷ is.values) ≤ℤ high = greatest-has (λ z. z ≤ℤ high) high is.values before in
    let reached : high ≤ℤ greatest (high ∷ is.values) = first-most high is.values in (
      low ∷ high ∷ is.values,
      record {
        count = ap (λ n. suc (suc n)) is.count;
        low_is = omega (arith, ints, clamps);
        high_is = omega (arith, ints, clamps);
        sum_is = ap (λ z. low +ℤ (high +ℤ z)) is.summed ∙ whole;
      },
    )

pub sums_reached : SumsAreReached
unfolding sum_of
sums_reached zero low high sum some order is = absurd (omega arith)
sums_reached (suc zero) low high sum some order is =
    let are = allows-back 0 low high sum order is in
    (sum ∷ [], record { count = refl; low_is = omega (arith, ints); high_is = omega (arith, ints); sum_is = omega (arith, ints) })
sums_reached (suc (suc m)) low high sum some order is =
    let are = allows-back (suc m) low high sum order is in
    let from = rw (times-more m low) at are.least in
    let to = rw (times-more m high) at are.most in
    both-ends m low high sum ((sum -ℤ low) -ℤ high) order (omega (arith, ints))
    (fill m low high ((sum -ℤ low) -ℤ high) order (omega (arith, ints)) (omega (arith, ints)))
