-- Squares of differences, in natural numbers.
use Rattle.std.specs.Prelude.{◌≡◌, ℕ, ◌+◌, ◌-◌, ◌*◌, ◌≤◌, refl}
use Rattle.std.proofs.Common.{inl, inr, ap, ◌∙◌, arith}
use Rattle.std.proofs.Math.Nat.{mul-le-mul}
use Rattle.std.proofs.lemmas.Bool.{cases_lt}
use Rattle.psi_law_many.specs.Means.{square, outside}

-- the square of the difference of two numbers
pub gap : ℕ → ℕ → ℕ
gap a b = square (outside a a b)

pub gap-is : (a b : ℕ) → gap a b ≡ square (outside a a b)
unfolding gap
gap-is a b = refl

-- with twice the product it is the sum of the squares
gap-of : (a b d g : ℕ) → a ≡ b + d → g ≡ d * d → g + 2 * (a * b) ≡ a * a + b * b
gap-of a b d g e same = (let one = ap (λ (m : ℕ). m * a) e in let two = ap (λ (m : ℕ). m * d) e in let three = ap (λ (m : ℕ). m * b) e in omega arith)

pub gap-square : (a b : ℕ) → gap a b + 2 * (a * b) ≡ a * a + b * b
gap-square a b = elim (cases_lt a b) [
  | inl less ↦ (let e : outside a a b ≡ b - a = omega arith in let all = gap-of b a (b - a) (gap a b) (omega arith) (gap-is a b ∙ ap square e) in omega arith)
  | inr more ↦ (let e : outside a a b ≡ a - b = omega arith in gap-of a b (a - b) (gap a b) (omega arith) (gap-is a b ∙ ap square e))
]

pub gap-same : (a : ℕ) → gap a a ≡ 0
gap-same a = (let e : outside a a a ≡ 0 = omega arith in gap-is a a ∙ ap square e)

-- twice a product is at most the sum of the squares
pub two-products : (a b : ℕ) → 2 * (a * b) ≤ a * a + b * b
two-products a b = (let e = gap-square a b in omega arith)

-- the squares of a sum of two differences, less the cross terms
pub gap-add : (s v t b : ℕ) → gap (s + t) (v + b) + (2 * b * s + 2 * v * t) ≡ gap s v + gap t b + (2 * s * t + 2 * v * b)
gap-add s v t b = omega (arith, gap-square (s + t) (v + b), gap-square s v, gap-square t b)

-- a number is at least as far from each number of a range as from the range
pub outside-order : (least greatest m t : ℕ) → least ≤ t → t ≤ greatest → outside least greatest m ≤ outside t t m
outside-order least greatest m t above below = omega arith

pub square-order : {a b : ℕ} → a ≤ b → square a ≤ square b
square-order under = mul-le-mul under under
