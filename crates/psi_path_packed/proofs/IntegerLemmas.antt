-- Integers: products with numbers of times.
use Rattle.std.specs.Prelude.{◌≡◌, ℕ, suc, ◌+◌, ◌*◌, ℤ, pos, ◌+ℤ◌, ◌*ℤ◌}
use Rattle.std.proofs.Common.{ap, arith}
use Rattle.std.proofs.lemmas.Int.{ints}
use borrow.Author.Differences.{up, down}

pub times-plus : (n : ℕ) (v w : ℤ) → pos n *ℤ (v +ℤ w) ≡ (pos n *ℤ v) +ℤ (pos n *ℤ w)
times-plus n v w =
    let e : up (v +ℤ w) + (down v + down w) ≡ down (v +ℤ w) + (up v + up w) = omega (arith, ints) in
    let m : n * (up (v +ℤ w) + (down v + down w)) ≡ n * (down (v +ℤ w) + (up v + up w)) = ap (λ k. n * k) e in omega (arith, ints)

pub times-suc : (n : ℕ) (w : ℤ) → pos (suc n) *ℤ w ≡ (pos n *ℤ w) +ℤ w
times-suc n w = omega (arith, ints)

pub more-times : (m n : ℕ) (w : ℤ) → pos (m + n) *ℤ w ≡ (pos m *ℤ w) +ℤ (pos n *ℤ w)
more-times m n w = omega (arith, ints)

pub none-times : (w : ℤ) → pos 0 *ℤ w ≡ pos 0
none-times w = omega (arith, ints)

pub plus-none : (a : ℤ) → a +ℤ pos 0 ≡ a
plus-none a = omega (arith, ints)

pub swapped : (a b c : ℤ) → (a +ℤ b) +ℤ c ≡ (a +ℤ c) +ℤ b
swapped a b c = omega (arith, ints)

pub grouped : (a b c : ℤ) → a +ℤ (b +ℤ c) ≡ (a +ℤ b) +ℤ c
grouped a b c = omega (arith, ints)

-- a step of summation by parts, by its products: `sum` has the values so far, `first` the first one at all times, and `rises` those of the changes so far
pub plain-step : (sum first rises now left_old left_rise later_now left_now : ℤ) → sum +ℤ left_old ≡ first +ℤ rises
    → left_now ≡ left_old +ℤ left_rise → left_now ≡ later_now +ℤ now → (sum +ℤ now) +ℤ later_now ≡ first +ℤ (rises +ℤ left_rise)
plain-step sum first rises now left_old left_rise later_now left_now before apart one = omega (arith, ints)

pub plain-stay : (sum first rises now later_now left_now : ℤ) → sum +ℤ left_now ≡ first +ℤ rises → left_now ≡ later_now +ℤ now → (sum +ℤ now) +ℤ later_now ≡ first +ℤ rises
plain-stay sum first rises now later_now left_now before one = omega (arith, ints)

pub plain-begun : (now left all rises : ℤ) → all ≡ left +ℤ now → rises ≡ pos 0 → now +ℤ left ≡ all +ℤ rises
plain-begun now left all rises one none = omega (arith, ints)
