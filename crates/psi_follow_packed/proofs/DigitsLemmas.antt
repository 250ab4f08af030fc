-- Numbers by their digits: what sums, bitwise ands and tests of two such numbers do to the digits.
use Rattle.std.specs.Prelude.{◌≡◌, ℕ, zero, suc, ◌+◌, ◌*◌, ◌/◌, ◌%◌, ◌^◌, ◌<◌, Bool, true, ◌&&◌, nat_eq, bit_and}
use Rattle.std.proofs.Common.{refl, ap, ap₂, sym, subst, ◌∙◌, arith, pow_pos}
use Rattle.std.proofs.lemmas.Bool.Decides.{nat_tests}
use Rattle.std.proofs.lemmas.Nat.{and_block, mul-add-lt, mod_low, shr_high, shr-shr, pow-add, same_from_place}

-- the number of n digits of so many bits, the first the lowest
abbrev pub digits : ℕ → ℕ → (ℕ → ℕ) → ℕ
digits bits zero f = 0
digits bits (suc n) f = digits bits n (λ j. f (suc j)) * 2 ^ bits + f 0

-- a test holds at each of the first n places
abbrev pub all_below : ℕ → (ℕ → Bool) → Bool
all_below zero p = true
all_below (suc n) p = p 0 && all_below n (λ j. p (suc j))

-- each of the first n digits fits
pub record AreDigits (bits n : ℕ) (f : ℕ → ℕ) : Type 0 where
  pub each : (j : ℕ) → j < n → f j < 2 ^ bits

pub later-digits : (bits n : ℕ) (f : ℕ → ℕ) → AreDigits bits (suc n) f → AreDigits bits n (λ j. f (suc j))
later-digits bits n f fit = record { each = λ j small. fit.each (suc j) (omega arith) }

pub digits-same : (bits n : ℕ) (f g : ℕ → ℕ) → ((j : ℕ) → j < n → f j ≡ g j) → digits bits n f ≡ digits bits n g
digits-same bits zero f g same = refl
digits-same bits (suc n) f g same =
    ap₂ (λ d v. d * 2 ^ bits + v) (digits-same bits n (λ j. f (suc j)) (λ j. g (suc j)) (λ j small. same (suc j) (omega arith))) (same 0 (omega arith))

pub digits-zero : (bits n : ℕ) (f : ℕ → ℕ) → ((j : ℕ) → f j ≡ 0) → digits bits n f ≡ 0
digits-zero bits zero f none = refl
digits-zero bits (suc n) f none =
    let rest : digits bits n (λ j. f (suc j)) ≡ 0 = digits-zero bits n (λ j. f (suc j)) (λ j. none (suc j)) in
    ap₂ (λ d v. d * 2 ^ bits + v) rest (none 0) ∙ omega arith

pub digits-add : (bits n : ℕ) (f g : ℕ → ℕ) → digits bits n (λ j. f j + g j) ≡ digits bits n f + digits bits n g
digits-add bits zero f g = refl
digits-add bits (suc n) f g =
    let rest = ap (λ d. d * 2 ^ bits) (digits-add bits n (λ j. f (suc j)) (λ j. g (suc j))) in
    omega (arith, rest)

pub digits-lt : (bits n : ℕ) (f : ℕ → ℕ) → AreDigits bits n f → digits bits n f < 2 ^ (bits * n)
digits-lt bits zero f fit = pow_pos (bits * 0)
digits-lt bits (suc n) f fit =
    let rest : digits bits n (λ j. f (suc j)) < 2 ^ (bits * n) = digits-lt bits n (λ j. f (suc j)) (later-digits bits n f fit) in
    let more : bits + bits * n ≡ bits * suc n = omega arith in
    let whole : 2 ^ (bits * suc n) ≡ 2 ^ bits * 2 ^ (bits * n) = ap (λ k. 2 ^ k) (sym more) ∙ pow-add 2 bits (bits * n) in
    subst (λ m. digits bits n (λ j. f (suc j)) * 2 ^ bits + f 0 < m) (sym whole)
    (mul-add-lt (digits bits n (λ j. f (suc j))) (2 ^ bits) (f 0) (2 ^ (bits * n)) rest (fit.each 0 (omega arith)))

pub digits-and : (bits n : ℕ) (f g : ℕ → ℕ) → AreDigits bits n f → AreDigits bits n g
    → bit_and (digits bits n f) (digits bits n g) ≡ digits bits n (λ j. bit_and (f j) (g j))
digits-and bits zero f g own other = refl
digits-and bits (suc n) f g own other =
    and_block bits (digits bits n (λ j. f (suc j))) (digits bits n (λ j. g (suc j))) (f 0) (g 0) (own.each 0 (omega arith)) (other.each 0 (omega arith))
    ∙ ap (λ d. d * 2 ^ bits + bit_and (f 0) (g 0)) (digits-and bits n (λ j. f (suc j)) (λ j. g (suc j)) (later-digits bits n f own) (later-digits bits n g other))

-- two numbers are equal where their lowest digits are, and what stands above these
nat_eq-block : (a b c d w : ℕ) → b < w → d < w → nat_eq (a * w + b) (c * w + d) ≡ (nat_eq b d && nat_eq a c)
nat_eq-block a b c d w low small =
    let parts : a * w + b ≡ c * w + d → (a ≡ c) × (b ≡ d) = same_from_place a b c d w low small in
    grind (arith, nat_tests, parts)

pub digits-test : (bits n : ℕ) (f g : ℕ → ℕ) (p : ℕ → Bool) → AreDigits bits n f → AreDigits bits n g → ((j : ℕ) → j < n → nat_eq (f j) (g j) ≡ p j)
    → nat_eq (digits bits n f) (digits bits n g) ≡ all_below n p
digits-test bits zero f g p own other test = refl
digits-test bits (suc n) f g p own other test =
    nat_eq-block (digits bits n (λ j. f (suc j))) (f 0) (digits bits n (λ j. g (suc j))) (g 0) (2 ^ bits) (own.each 0 (omega arith)) (other.each 0 (omega arith))
    ∙ ap₂ ◌&&◌ (test 0 (omega arith))
    (digits-test bits n (λ j. f (suc j)) (λ j. g (suc j)) (λ j. p (suc j)) (later-digits bits n f own) (later-digits bits n g other) (λ j small. test (suc j) (omega arith)))

pub digits-at : (bits n : ℕ) (f : ℕ → ℕ) (j : ℕ) → AreDigits bits n f → j < n → digits bits n f / 2 ^ (bits * j) % 2 ^ bits ≡ f j
digits-at bits zero f j fit small = absurd (omega arith)
digits-at bits (suc n) f zero fit small =
    let none : bits * 0 ≡ 0 = omega arith in
    let one : digits bits (suc n) f / 2 ^ (bits * 0) ≡ digits bits (suc n) f = ap (λ k. digits bits (suc n) f / 2 ^ k) none ∙ omega arith in
    ap (λ m. m % 2 ^ bits) one ∙ mod_low (digits bits n (λ k. f (suc k))) bits (f 0) (fit.each 0 (omega arith))
digits-at bits (suc n) f (suc j) fit small =
    let more : bits * suc j ≡ bits + bits * j = omega arith in
    ap (λ k. digits bits (suc n) f / 2 ^ k % 2 ^ bits) more
    ∙ ap (λ m. m % 2 ^ bits) (sym (shr-shr (digits bits (suc n) f) bits (bits * j)))
    ∙ ap (λ m. m / 2 ^ (bits * j) % 2 ^ bits) (shr_high (digits bits n (λ k. f (suc k))) bits (f 0) (fit.each 0 (omega arith)))
    ∙ digits-at bits n (λ k. f (suc k)) j (later-digits bits n f fit) (omega arith)
