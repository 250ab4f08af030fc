-- What stays below a share that falls geometrically is nothing.
use Rattle.std.specs.Prelude.{◌≡◌, ℕ, zero, suc, ◌+◌, ◌-◌, ◌*◌, ◌^◌, ◌<◌, ◌≤◌, refl}
use Rattle.std.proofs.Common.{inl, inr, arith}
use Rattle.std.proofs.Math.Nat.{pow-zero, pow-succ', pow-le-pow_left, mul-le-mul_left, mul-le-mul_right, le_of_mul-le-mul_left, mul-sub, one-le-pow}
use Rattle.std.proofs.lemmas.Nat.{pow-add}
use Rattle.std.proofs.lemmas.Bool.{cases_lt}
use Rattle.std.proofs.lemmas.Grind.{common_steps}

-- the powers of the next number grow by more than a part each (Bernoulli's inequality)
bernoulli : (b k : ℕ) → b ^ k * (b + k) ≤ suc b ^ k * b
bernoulli b zero = rw (pow-zero b, pow-zero (suc b)) (omega arith)
bernoulli b (suc k) =
    let rest = mul-le-mul_left (suc b) (bernoulli b k) in
    rw (pow-succ' b k, pow-succ' (suc b) k) (omega arith)

pub pow-times : (b n j : ℕ) → b ^ (j * n) ≡ (b ^ n) ^ j
pow-times b n zero = (let z : zero * n ≡ 0 = omega arith in rw (z, pow-zero b, pow-zero (b ^ n)) refl)
pow-times b n (suc j) = grind (arith, common_steps, pow-add, pow-succ', (pow-times b n j))

-- what is left of a difference, as often
pub less-times : (a b p c : ℕ) → a * p ≤ b * p + c → (a - b) * p ≤ c
less-times a b p c under = (let e = mul-sub p a b in omega arith)

-- what isn't more than c * (u / a)^j, for every j, is nothing where u is below a: take c * u for j
pub vanishes : (d c u a : ℕ) → u < a → ((j : ℕ) → d * a ^ j ≤ c * u ^ j) → d ≡ 0
vanishes zero c u a less under = refl
vanishes (suc d) c u a less under =
    elim (cases_lt 0 u) [
      | inl some ↦
          (let j = c * u in
          let more : suc u ^ j ≤ a ^ j = pow-le-pow_left less j in
          let first = mul-le-mul_left (suc d) (bernoulli u j) in
          let second = mul-le-mul_left (suc d) (mul-le-mul_right u more) in
          let third = mul-le-mul_right u (under j) in
          let whole : u ^ j * (suc d * (u + j)) ≤ u ^ j * (c * u) = omega arith in
          let part = le_of_mul-le-mul_left whole (one-le-pow j u some) in
          absurd (omega arith))
      | inr none ↦
          (let z : u ≡ 0 = omega arith in
          let one = rw (pow-succ' u 0, z) at (under 1) in
          let least = mul-le-mul_left (suc d) (one-le-pow 1 a (omega arith)) in
          absurd (omega arith))
    ]
