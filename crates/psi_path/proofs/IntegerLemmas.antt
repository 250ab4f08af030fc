-- Integers: differences times a number of steps, and the sums that they make.
use Rattle.std.specs.Prelude.{◌≡◌, ℕ, suc, ◌+◌, ◌*◌, ◌^◌, ◌<◌, ◌≤◌, ℤ, pos, negsuc, ◌+ℤ◌, ◌-ℤ◌, ◌*ℤ◌}
use Rattle.std.specs.Int.RustNames.{unsigned_abs}
use Rattle.std.specs.Int.{w128}
use Rattle.std.proofs.Common.{ap, sym, ◌∙◌, w64, SFits, arith}
use Rattle.std.proofs.Math.Nat.{mul-le-mul_left, mul-le-mul_right}
use Rattle.std.proofs.lemmas.Int.{ints, unsigned_abs-mul, fits_signed_from_abs}
use borrow.Author.Differences.{up, down}

pub unsigned_abs-add : (a b : ℤ) → unsigned_abs (a +ℤ b) ≤ unsigned_abs a + unsigned_abs b
unsigned_abs-add a b = omega (arith, ints)

unsigned_abs-sub : (a b : ℤ) → unsigned_abs (a -ℤ b) ≤ unsigned_abs a + unsigned_abs b
unsigned_abs-sub a b = omega (arith, ints)

-- products with a number of steps
times-apart : (n : ℕ) (v w : ℤ) → pos n *ℤ (w -ℤ v) ≡ (pos n *ℤ w) -ℤ (pos n *ℤ v)
times-apart n v w =
    let e : up (w -ℤ v) + (down w + up v) ≡ down (w -ℤ v) + (up w + down v) = omega (arith, ints) in
    let m : n * (up (w -ℤ v) + (down w + up v)) ≡ n * (down (w -ℤ v) + (up w + down v)) = ap (λ k. n * k) e in omega (arith, ints)

times-suc : (n : ℕ) (w : ℤ) → pos (suc n) *ℤ w ≡ (pos n *ℤ w) +ℤ w
times-suc n w = omega (arith, ints)

plain-turn : (sum new total w left_v left_w later_w : ℤ) → sum ≡ total +ℤ left_v → new ≡ sum +ℤ (left_w -ℤ left_v) → left_w ≡ later_w +ℤ w → new ≡ (total +ℤ w) +ℤ later_w
plain-turn sum new total w left_v left_w later_w before after times = omega (arith, ints)

-- a sum that had v as often as there are steps left has w instead, of which one is that of the next time
pub turned-integer : (left later : ℕ) (total sum new v w : ℤ) → left ≡ suc later → sum ≡ total +ℤ (pos left *ℤ v) → new ≡ sum +ℤ (pos left *ℤ (w -ℤ v))
    → new ≡ (total +ℤ w) +ℤ (pos later *ℤ w)
turned-integer left later total sum new v w one before after =
    plain-turn sum new total w (pos left *ℤ v) (pos left *ℤ w) (pos later *ℤ w) before (after ∙ ap (λ z. sum +ℤ z) (times-apart left v w))
    (ap (λ n. pos n *ℤ w) one ∙ times-suc later w)

plain-none : (s a : ℤ) → s ≡ s +ℤ (a -ℤ a)
plain-none s a = omega (arith, ints)

pub nothing-risen : (n : ℕ) (s w v : ℤ) → v ≡ w → s ≡ s +ℤ (pos n *ℤ (w -ℤ v))
nothing-risen n s w v same =
    plain-none s (pos n *ℤ w) ∙ ap (λ z. s +ℤ z) (sym (times-apart n w w) ∙ ap (λ z. pos n *ℤ (w -ℤ z)) (sym same))

plain-begun : (new sum times_w later w x : ℤ) → sum ≡ pos 0 → x ≡ w → times_w ≡ later +ℤ w → new ≡ sum +ℤ times_w → new ≡ x +ℤ later
plain-begun new sum times_w later w x none same times after = omega (arith, ints)

times-none : (n : ℕ) → pos n *ℤ pos 0 ≡ pos 0
times-none n = (let e : n * 0 ≡ 0 = omega arith in ap pos e)

-- a sum of 0, and then of w at all times
pub begun-integer : (steps : ℕ) (new sum w x : ℤ) → sum ≡ pos 0 → x ≡ w → new ≡ sum +ℤ (pos (steps + 1) *ℤ w) → new ≡ x +ℤ (pos steps *ℤ w)
begun-integer steps new sum w x none same after =
    let e : steps + 1 ≡ suc steps = omega arith in
    plain-begun new sum (pos (steps + 1) *ℤ w) (pos steps *ℤ w) w x none same (ap (λ n. pos n *ℤ w) e ∙ times-suc steps w) after

plain-added : (new sum times_w times_v : ℤ) → times_v ≡ pos 0 → new ≡ sum +ℤ (times_w -ℤ times_v) → new ≡ sum +ℤ times_w
plain-added new sum times_w times_v zero_value after = omega (arith, ints)

-- a sum that has w instead of nothing, so many times
pub added-integer : (n : ℕ) (new sum v w : ℤ) → v ≡ pos 0 → new ≡ sum +ℤ (pos n *ℤ (w -ℤ v)) → new ≡ sum +ℤ (pos n *ℤ w)
added-integer n new sum v w zero_value after =
    plain-added new sum (pos n *ℤ w) (pos n *ℤ v) (ap (λ z. pos n *ℤ z) zero_value ∙ times-none n) (after ∙ ap (λ z. sum +ℤ z) (times-apart n v w))

-- ---- ranges

pub fits-wide : (z : ℤ) → SFits w64 z → SFits w128 z
fits-wide z fits = record { sfits = (let small = fits.sfits in omega arith) }

pub fits-abs : (z : ℤ) → SFits w64 z → unsigned_abs z ≤ 2 ^ 63
fits-abs (pos n) fits = (let small = fits.sfits in omega arith)
fits-abs (negsuc n) fits = (let small = fits.sfits in omega arith)

-- a difference of two values, times a number of steps
pub rise-few : (left : ℕ) (before value : ℤ) → left < 2 ^ 32 → SFits w64 before → SFits w64 value → unsigned_abs (pos left *ℤ (value -ℤ before)) ≤ 2 ^ 96
rise-few left before value few first second =
    let a = fits-abs before first in
    let b = fits-abs value second in
    let both = unsigned_abs-sub value before in
    let product = unsigned_abs-mul (pos left) (value -ℤ before) in
    let less : left ≤ 2 ^ 32 = omega arith in
    let under = mul-le-mul_right (unsigned_abs (value -ℤ before)) less in
    omega arith

pub difference-fits : (before value : ℤ) → SFits w64 before → SFits w64 value → SFits w128 (value -ℤ before)
difference-fits before value first second =
    let a = fits-abs before first in
    let b = fits-abs value second in
    let both = unsigned_abs-sub value before in
    fits_signed_from_abs w128 (value -ℤ before) (omega arith)

pub few-fits : (z : ℤ) → unsigned_abs z ≤ 2 ^ 97 → SFits w128 z
few-fits z few = fits_signed_from_abs w128 z (omega arith)

pub sum-fits : (a b : ℤ) → unsigned_abs a ≤ 2 ^ 96 → unsigned_abs b ≤ 2 ^ 96 → SFits w128 (a +ℤ b)
sum-fits a b first second = (let both = unsigned_abs-add a b in few-fits (a +ℤ b) (omega arith))

-- the values of the times so far, and of the present one as often as there are steps left
pub sum-few : (k left : ℕ) (total w sum : ℤ) → k + left < 2 ^ 32 → unsigned_abs total ≤ (k + 1) * 2 ^ 63 → unsigned_abs w ≤ 2 ^ 63 → sum ≡ total +ℤ (pos left *ℤ w) → unsigned_abs sum ≤ 2 ^ 96
sum-few k left total w sum few own small is =
    let product = unsigned_abs-mul (pos left) w in
    let under = mul-le-mul_left left small in
    let both = unsigned_abs-add total (pos left *ℤ w) in
    let e : unsigned_abs sum ≡ unsigned_abs (total +ℤ (pos left *ℤ w)) = ap (λ z. unsigned_abs z) is in
    omega arith
