-- A number of which one bit is set is a power of two.
use Rattle.std.specs.Prelude.{◌≡◌, ℕ, zero, suc, ◌+◌, ◌*◌, ◌/◌, ◌%◌, ◌^◌, ◌<◌, count_ones, refl}
use Rattle.std.specs.Int.Count.{ones}
use Rattle.std.proofs.Common.{ap, sym, ◌∙◌, arith}
use Rattle.std.proofs.Math.Nat.{pow-suc}
use Rattle.std.proofs.lemmas.Nat.{ones_cat, shr_split, mod_below, zero_from_ones}
use Rattle.psi_report_reader.proofs.OrderLemmas.{by_order}

pub one-bit : ones 1 ≡ 1
unfolding ones
one-bit = refl

pub no-bit : ones 0 ≡ 0
unfolding ones
no-bit = refl

-- the exponent of a power of two below another
pub record IsPowerBelow (k t : ℕ) : Type 0 where
  pub exponent : ℕ
  pub few : exponent < k
  pub power : t ≡ 2 ^ exponent

pub power-below : (k t : ℕ) → t < 2 ^ k → count_ones t ≡ 1 → IsPowerBelow k t
power-below zero t small once =
    let none : t ≡ 0 = omega arith in
    let bits : count_ones t ≡ 0 = ap ones none ∙ no-bit in
    absurd (omega arith)
power-below (suc k) t small once =
    let double : 2 ^ suc k ≡ 2 ^ k * 2 = pow-suc 2 k in
    let whole : t / 2 * 2 + t % 2 ≡ t = shr_split t 1 in
    let last : t % 2 < 2 = mod_below t 2 (omega arith) in
    let bits : ones (t / 2 * 2 + t % 2) ≡ ones (t / 2) + ones (t % 2) = ones_cat 1 (t / 2) (t % 2) last in
    let sum : ones (t / 2) + ones (t % 2) ≡ 1 = sym bits ∙ ap ones whole ∙ once in
    by_order (t % 2) 0
    (λ even. (
    let none : ones (t % 2) ≡ 0 = ap ones even ∙ no-bit in
    let half = power-below k (t / 2) (omega arith) (omega arith) in
    let next : 2 ^ suc half.exponent ≡ 2 ^ half.exponent * 2 = pow-suc 2 half.exponent in
    record { exponent = suc half.exponent; few = omega arith; power = omega arith }))
    (λ less. absurd (omega arith))
    (λ odd. (
    let one : t % 2 ≡ 1 = omega arith in
    let bit : ones (t % 2) ≡ 1 = ap ones one ∙ one-bit in
    let none : t / 2 ≡ 0 = zero_from_ones (t / 2) (omega arith) in
    record { exponent = 0; few = omega arith; power = omega arith }))
