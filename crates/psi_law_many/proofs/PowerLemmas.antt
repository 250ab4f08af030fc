-- The exponential function is convex: a power with mixed factors is below the line between the pure ones.
use Rattle.std.specs.Prelude.{◌≡◌, ℕ, zero, suc, ◌+◌, ◌-◌, ◌*◌, ◌^◌, ◌≤◌}
use Rattle.std.proofs.Common.{inl, inr, sym, subst, arith}
use Rattle.std.proofs.Math.Nat.{pow-zero, pow-suc, mul-le-mul, mul-le-mul_left, mul-le-mul_right, pow-le-pow_left}
use Rattle.std.proofs.lemmas.Nat.{pow-add}
use Rattle.std.proofs.lemmas.Bool.{cases_lt}

-- the greater with the greater is most (the rearrangement inequality)
by-gaps : (x d p e : ℕ) → x * (p + e) + (x + d) * p ≤ x * p + (x + d) * (p + e)
by-gaps x d p e = omega arith

rearranged : (x y p q : ℕ) → x ≤ y → p ≤ q → x * q + y * p ≤ x * p + y * q
rearranged x y p q first last =
    let e : y ≡ x + (y - x) = omega arith in
    let f : q ≡ p + (q - p) = omega arith in
    rw (e, f) (by-gaps x (y - x) p (q - p))

-- of two pure powers, exchanging one factor makes the sum smaller
pure-most : (a b i j : ℕ) → a ^ i * a ^ j * a * b + b ^ i * b ^ j * b * a ≤ a ^ i * a ^ j * a * a + b ^ i * b ^ j * b * b
pure-most a b i j = elim (cases_lt a b) [
  | inl less ↦ (let o : a ≤ b = omega arith in
      omega (arith, rearranged a b (a ^ i * a ^ j * a) (b ^ i * b ^ j * b) o (mul-le-mul (mul-le-mul (pow-le-pow_left o i) (pow-le-pow_left o j)) o)))
  | inr more ↦ omega (arith, rearranged b a (b ^ i * b ^ j * b) (a ^ i * a ^ j * a) more (mul-le-mul (mul-le-mul (pow-le-pow_left more i) (pow-le-pow_left more j)) more))
]

-- one factor b more: i times the pure power of a is exchanged with the mixed power
chord-step : (a b j i : ℕ) → i * (a ^ i * a ^ j * b) + a ^ i * (b ^ j * b) ≤ i * (a ^ i * a ^ j * a) + b ^ i * b ^ j * b
chord-step a b j zero = rw (pow-zero a, pow-zero b) (omega arith)
chord-step a b j (suc i) = rw (pow-suc a i, pow-suc b i) (omega (arith, mul-le-mul_left a (chord-step a b j i), pure-most a b i j))

under-line : (a b i j : ℕ) → (i + j) * (a ^ i * b ^ j) ≤ i * (a ^ i * a ^ j) + j * (b ^ i * b ^ j)
under-line a b i zero = rw (pow-zero a, pow-zero b) (omega arith)
under-line a b i (suc j) = rw (pow-suc b j, pow-suc a j) (omega (arith, mul-le-mul_right b (under-line a b i j), chord-step a b j i))

-- i factors a and j factors b are below the line between z factors a and z factors b
pub convex : (a b i j z : ℕ) → i + j ≡ z → z * (a ^ i * b ^ j) ≤ i * a ^ z + j * b ^ z
convex a b i j z whole = rw (← whole, pow-add a i j, pow-add b i j) (under-line a b i j)

-- more factors of the greater number
shifted : (a b i j d : ℕ) → b ≤ a → a ^ i * b ^ (j + d) ≤ a ^ (i + d) * b ^ j
shifted a b i j d order = rw (pow-add b j d, pow-add a i d) (omega (arith, mul-le-mul_left (a ^ i * b ^ j) (pow-le-pow_left order d)))

pub more-factors : (a b i j p q : ℕ) → b ≤ a → i ≤ p → i + j ≡ p + q → a ^ i * b ^ j ≤ a ^ p * b ^ q
more-factors a b i j p q order less same =
    let d : ℕ = p - i in
    let e : p ≡ i + d = omega arith in
    let f : j ≡ q + d = omega arith in
    subst (λ m. a ^ i * b ^ m ≤ a ^ p * b ^ q) (sym f) (subst (λ m. a ^ i * b ^ (q + d) ≤ a ^ m * b ^ q) (sym e) (shifted a b i q d order))
