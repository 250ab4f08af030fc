-- Powers of two: the least one that isn't below a number is found by doubling.
use Rattle.std.specs.Prelude.{◌≡◌, ℕ, zero, suc, ◌+◌, ◌*◌, ◌/◌, ◌^◌, ◌<◌, ◌≤◌, refl}
use Rattle.std.specs.Int.{IsPowerOfTwo}
use Rattle.std.proofs.Common.{inl, inr, ap, subst, arith}
use Rattle.std.proofs.Math.Nat.{pow-succ', pow-le-pow_right}
use Rattle.std.proofs.lemmas.Bool.{cases_lt, le-leb, lt-leb}
use Rattle.std.proofs.lemmas.Grind.{common_steps}
use Rattle.psi_rate.specs.Rates.{IsLeastPower, power_from, least_power}

pub pow-double : (k : ℕ) → 2 ^ suc k ≡ 2 * 2 ^ k
pow-double k = pow-succ' 2 k

pub pow-order : (j k : ℕ) → j ≤ k → 2 ^ j ≤ 2 ^ k
pow-order j k order = pow-le-pow_right {n = 2} (omega arith) order

pub below-pow : (n : ℕ) → n < 2 ^ n
below-pow zero = omega arith
below-pow (suc n) = (let rest = below-pow n in let e = pow-double n in omega arith)

power_from-stops : (n p k : ℕ) → p ≡ 2 ^ k → ((j : ℕ) → j < k → 2 ^ j < n) → n ≤ p → IsLeastPower n p
power_from-stops n p k is below enough = grind (arith, common_steps, pow-order)

power_from-is : (more n p k : ℕ) → p ≡ 2 ^ k → ((j : ℕ) → j < k → 2 ^ j < n) → n ≤ 2 ^ (more + k) → IsLeastPower n (power_from more n p)
power_from-is zero n p k is below enough = grind (arith, common_steps, power_from-stops)
power_from-is (suc more) n p k is below enough =
    elim (cases_lt p n) [
      | inl less ↦ (let step : power_from more n (2 * p) ≡ power_from (suc more) n p = rw (lt-leb n p less) refl in
          let next : 2 * p ≡ 2 ^ suc k = (let d = pow-double k in omega arith) in
          let e : suc more + k ≡ more + suc k = omega arith in
          let last : 2 ^ (suc more + k) ≡ 2 ^ (more + suc k) = ap (λ i. 2 ^ i) e in
          subst (λ m. IsLeastPower n m) step (power_from-is more n (2 * p) (suc k) next
          (λ j small. grind (arith, common_steps)) (omega arith)))
      | inr done ↦ (let stop : p ≡ power_from (suc more) n p = rw (le-leb n p done) refl in
          subst (λ m. IsLeastPower n m) stop (power_from-stops n p k is below done))
    ]

pub least_power-is : (n : ℕ) → IsLeastPower n (least_power n)
unfolding least_power
least_power-is n =
    let e : n + 0 ≡ n = omega arith in
    let last : 2 ^ (n + 0) ≡ 2 ^ n = ap (λ i. 2 ^ i) e in
    let room = below-pow n in
    power_from-is n n 1 0 refl (λ j small. absurd (omega arith)) (omega arith)

-- there is one least power
pub least_power-only : (n m : ℕ) → IsLeastPower n m → m ≡ least_power n
least_power-only n m is =
    let other = least_power-is n in
    let reaches : n ≤ 2 ^ other.exponent = (let p = other.power in let q = other.enough in omega arith) in
    let back : n ≤ 2 ^ is.exponent = (let p = is.power in let q = is.enough in omega arith) in
    let under : m ≤ 2 ^ other.exponent = is.least other.exponent reaches in
    let over : least_power n ≤ 2 ^ is.exponent = other.least is.exponent back in
    let first = is.power in
    let second = other.power in
    omega arith

-- what std's `next_power_of_two` says of its answer, for a number that isn't 0
pub least_power-next : (n m : ℕ) → 1 ≤ n → IsPowerOfTwo m → n ≤ m → m / 2 < n → IsLeastPower n m
least_power-next n m some power enough half = record {
  exponent = power.0;
  power = power.1;
  enough = enough;
  least = λ j reaches. elim (cases_lt j power.0) [
    | inl less ↦ (let next : 2 ^ suc j ≤ 2 ^ power.0 = pow-order (suc j) power.0 (omega arith) in
        let d = pow-double j in let is = power.1 in absurd (omega arith))
    | inr more ↦ (let order : 2 ^ power.0 ≤ 2 ^ j = pow-order power.0 j more in let is = power.1 in omega arith)
  ];
}
