-- Numbers of digits that are zero or one: which of them is one.
use Rattle.std.specs.Prelude.{◌≡◌, ℕ, zero, suc, ◌+◌, ◌-◌, ◌*◌, ◌/◌, ◌%◌, ◌^◌, ◌<◌, ◌≤◌, min, bit_and, refl}
use Rattle.std.proofs.Common.{inl, inr, ap, ap₂, sym, ◌∙◌, arith, pow_pos, mod-lt}
use Rattle.std.proofs.Math.Nat.{pow-suc, div-add-mod', le-mul_of_pos_right}
use Rattle.std.proofs.lemmas.Bool.{cases_lt, cases_eq}
use Rattle.std.specs.Int.Bits.{and_zero_l, and_zero_r}
use Rattle.std.proofs.lemmas.Nat.{and_block, shr_high}
use Rattle.psi_follow_packed.proofs.DigitsLemmas.{digits, AreDigits, later-digits, digits-zero, digits-at}
use Rattle.psi_follow_packed.proofs.WordsLemmas.{twice-guard}
use Rattle.psi_follow_packed.proofs.LoweringLemmas.{and-same}

-- each of the first n digits is zero or one
pub record AreUnits (n : ℕ) (t : ℕ → ℕ) : Type 0 where
  pub each : (j : ℕ) → j < n → t j ≤ 1

later-units : (n : ℕ) (t : ℕ → ℕ) → AreUnits (suc n) t → AreUnits n (λ j. t (suc j))
later-units n t units = record { each = λ j small. units.each (suc j) (omega arith) }

pub two-most : (bits : ℕ) → 1 ≤ bits → 2 ≤ 2 ^ bits
two-most bits some =
    let e : bits ≡ suc (bits - 1) = omega arith in
    let twice : 2 ^ bits ≡ 2 ^ (bits - 1) * 2 = ap (λ k. 2 ^ k) e ∙ pow-suc 2 (bits - 1) in
    omega (arith, twice, pow_pos (bits - 1))

pub units-digits : (bits n : ℕ) (t : ℕ → ℕ) → 1 ≤ bits → AreUnits n t → AreDigits bits n t
units-digits bits n t some units = record { each = λ j small. omega (arith, units.each j small, two-most bits some) }

-- numbers that are the same have the same digits
pub digits-one : (bits n : ℕ) (f g : ℕ → ℕ) (j : ℕ) → AreDigits bits n f → AreDigits bits n g → digits bits n f ≡ digits bits n g → j < n → f j ≡ g j
digits-one bits n f g j fit fits same small =
    sym (digits-at bits n f j fit small) ∙ ap (λ m. m / 2 ^ (bits * j) % 2 ^ bits) same ∙ digits-at bits n g j fits small

pub digits-none : (bits n : ℕ) (f : ℕ → ℕ) (j : ℕ) → AreDigits bits n f → digits bits n f ≡ 0 → j < n → f j ≡ 0
digits-none bits n f j fit none small =
    digits-one bits n f (λ i. 0) j fit (record { each = λ i inside. pow_pos bits }) (none ∙ sym (digits-zero bits n (λ i. 0) (λ i. refl))) small

-- the first digit that is one, if there is one
pub units-some : (bits n : ℕ) (t : ℕ → ℕ) → AreUnits n t → (digits bits n t ≡ 0 → ⊥) → (j : ℕ) × (j < n) × (t j ≡ 1)
units-some bits zero t units some = absurd (some refl)
units-some bits (suc n) t units some = elim (cases_eq (t 0) 1) [
  | inl one ↦ (0, omega arith, one)
  | inr none ↦
      (let first = units.each 0 (omega arith) in
      let zero_is : t 0 ≡ 0 = omega (arith, first, none) in
      let found = units-some bits n (λ j. t (suc j)) (later-units n t units)
      (λ rest. some (ap₂ (λ d v. d * 2 ^ bits + v) rest zero_is ∙ omega arith)) in
      let small : found.0 < n = found.1 in
      (suc found.0, omega arith, found.2))
]

-- ---- a number and the one below it

-- without its lowest bit a number has the same digits but the first, where that is one
lowest-one : (bits d : ℕ) → 1 ≤ bits → bit_and (d * 2 ^ bits + 1) (d * 2 ^ bits + 1 - 1) ≡ d * 2 ^ bits
lowest-one bits d some =
    let less : d * 2 ^ bits + 1 - 1 ≡ d * 2 ^ bits + 0 = omega arith in
    ap (bit_and (d * 2 ^ bits + 1)) less
    ∙ and_block bits d d 1 0 (omega (arith, two-most bits some)) (pow_pos bits)
    ∙ ap₂ (λ a b. a * 2 ^ bits + b) (and-same d) (and_zero_r 1) ∙ omega arith

lowest-none : (bits d : ℕ) → 1 ≤ d → bit_and (d * 2 ^ bits + 0) (d * 2 ^ bits + 0 - 1) ≡ bit_and d (d - 1) * 2 ^ bits
lowest-none bits d some =
    let e : d ≡ suc (d - 1) = omega arith in
    let whole : d * 2 ^ bits ≡ (d - 1) * 2 ^ bits + 2 ^ bits = ap (λ m. m * 2 ^ bits) e ∙ omega arith in
    let less : d * 2 ^ bits + 0 - 1 ≡ (d - 1) * 2 ^ bits + (2 ^ bits - 1) = omega (arith, whole, pow_pos bits) in
    ap (bit_and (d * 2 ^ bits + 0)) less
    ∙ and_block bits d (d - 1) 0 (2 ^ bits - 1) (pow_pos bits) (omega (arith, pow_pos bits))
    ∙ ap (λ b. bit_and d (d - 1) * 2 ^ bits + b) (and_zero_l (2 ^ bits - 1)) ∙ omega arith

-- one digit alone is one
pub record IsLone (n : ℕ) (t : ℕ → ℕ) : Type 0 where
  pub place : ℕ
  pub small : place < n
  pub one : t place ≡ 1
  pub others : (j : ℕ) → j < n → (j ≡ place → ⊥) → t j ≡ 0

-- two digits are one
pub record AreTwo (n : ℕ) (t : ℕ → ℕ) : Type 0 where
  pub first : ℕ
  pub second : ℕ
  pub order : first < second
  pub last : second < n
  pub one : t first ≡ 1
  pub other : t second ≡ 1

pub units-lone : (bits n : ℕ) (t : ℕ → ℕ) → 1 ≤ bits → AreUnits n t → (digits bits n t ≡ 0 → ⊥) → bit_and (digits bits n t) (digits bits n t - 1) ≡ 0 → IsLone n t
units-lone bits zero t some units any lone = absurd (any refl)
units-lone bits (suc n) t some units any lone =
    let rest = digits bits n (λ j. t (suc j)) in
    elim (cases_eq (t 0) 1) [
      | inl one ↦
          (let same : bit_and (rest * 2 ^ bits + 1) (rest * 2 ^ bits + 1 - 1) ≡ 0 = ap (λ v. bit_and (rest * 2 ^ bits + v) (rest * 2 ^ bits + v - 1)) (sym one) ∙ lone in
          let none : rest * 2 ^ bits ≡ 0 = sym (lowest-one bits rest some) ∙ same in
          let empty : rest ≡ 0 = omega (arith, none, le-mul_of_pos_right rest (pow_pos bits)) in
          record {
            place = 0;
            small = omega arith;
            one = one;
            others = later-none n t 1 rest bits some (later-units n t units) empty;
          })
      | inr not ↦
          (let first = units.each 0 (omega arith) in
          let zero_is : t 0 ≡ 0 = omega (arith, first, not) in
          let more : rest ≡ 0 → ⊥ = λ empty. any (ap₂ (λ d v. d * 2 ^ bits + v) empty zero_is ∙ omega arith) in
          let positive : 1 ≤ rest = elim (cases_lt 0 rest) [ inl up ↦ omega arith | inr down ↦ absurd (more (omega (arith, down))) ] in
          let same : bit_and (rest * 2 ^ bits + 0) (rest * 2 ^ bits + 0 - 1) ≡ 0 = ap (λ v. bit_and (rest * 2 ^ bits + v) (rest * 2 ^ bits + v - 1)) (sym zero_is) ∙ lone in
          let none : bit_and rest (rest - 1) * 2 ^ bits ≡ 0 = sym (lowest-none bits rest positive) ∙ same in
          let single : bit_and rest (rest - 1) ≡ 0 = omega (arith, none, le-mul_of_pos_right (bit_and rest (rest - 1)) (pow_pos bits)) in
          let found = units-lone bits n (λ j. t (suc j)) some (later-units n t units) more single in
          record {
            place = suc found.place;
            small = omega (arith, found.small);
            one = found.one;
            others = further-none n t found zero_is;
          })
    ]
  where
    later-none : (n : ℕ) (t : ℕ → ℕ) (k rest bits : ℕ) → 1 ≤ bits → AreUnits n (λ j. t (suc j)) → digits bits n (λ j. t (suc j)) ≡ 0
        → (j : ℕ) → j < suc n → (j ≡ 0 → ⊥) → t j ≡ 0
    later-none n t k rest bits some units empty zero small other = absurd (other refl)
    later-none n t k rest bits some units empty (suc j) small other =
        digits-none bits n (λ i. t (suc i)) j (units-digits bits n (λ i. t (suc i)) some units) empty (omega arith)

    further-none : (n : ℕ) (t : ℕ → ℕ) (found : IsLone n (λ j. t (suc j))) → t 0 ≡ 0 → (j : ℕ) → j < suc n → (j ≡ suc found.place → ⊥) → t j ≡ 0
    further-none n t found none zero small other = none
    further-none n t found none (suc j) small other = found.others j (omega arith) (λ e. other (ap suc e))

pub units-two : (bits n : ℕ) (t : ℕ → ℕ) → 1 ≤ bits → AreUnits n t → (bit_and (digits bits n t) (digits bits n t - 1) ≡ 0 → ⊥) → AreTwo n t
units-two bits zero t some units two = absurd (two refl)
units-two bits (suc n) t some units two =
    let rest = digits bits n (λ j. t (suc j)) in
    elim (cases_eq (t 0) 1) [
      | inl one ↦
          (let any : rest ≡ 0 → ⊥ = λ empty. two
          (ap (λ v. bit_and (rest * 2 ^ bits + v) (rest * 2 ^ bits + v - 1)) one ∙ lowest-one bits rest some ∙ ap (λ d. d * 2 ^ bits) empty ∙ omega arith) in
          let found = units-some bits n (λ j. t (suc j)) (later-units n t units) any in
          let small : found.0 < n = found.1 in
          record { first = 0; second = suc found.0; order = omega arith; last = omega arith; one = one; other = found.2 })
      | inr not ↦
          (let first = units.each 0 (omega arith) in
          let zero_is : t 0 ≡ 0 = omega (arith, first, not) in
          let positive : 1 ≤ rest = elim (cases_lt 0 rest) [
            | inl up ↦ omega arith
            | inr down ↦ absurd (let empty : rest ≡ 0 = omega (arith, down) in
                let none : rest * 2 ^ bits + t 0 ≡ 0 = ap₂ (λ d v. d * 2 ^ bits + v) empty zero_is ∙ omega arith in
                two (ap (λ v. bit_and v (v - 1)) none ∙ and_zero_l (0 - 1)))
          ] in
          let found = units-two bits n (λ j. t (suc j)) some (later-units n t units)
          (λ single. two (ap (λ v. bit_and (rest * 2 ^ bits + v) (rest * 2 ^ bits + v - 1)) zero_is ∙ lowest-none bits rest positive ∙ ap (λ d. d * 2 ^ bits) single ∙ omega arith)) in
          record { first = suc found.first; second = suc found.second; order = omega (arith, found.order); last = omega (arith, found.last); one = found.one; other = found.other })
    ]

-- ---- guards that are shifted to the lowest bit

-- of numbers in fields with a guard above each, the guards with a one below them are those of the fields
pub digits-guards : (bits n : ℕ) (r u : ℕ → ℕ) → 1 ≤ bits → AreDigits bits n r → AreUnits n u
    → bit_and (digits bits n r / 2 ^ (bits - 1)) (digits bits n u) ≡ digits bits n (λ j. bit_and (r j / 2 ^ (bits - 1)) (u j))
digits-guards bits zero r u some fit units = and_zero_r (0 / 2 ^ (bits - 1))
digits-guards bits (suc n) r u some fit units =
    let guard = 2 ^ (bits - 1) in
    let positive : 1 ≤ guard = pow_pos (bits - 1) in
    let whole : 2 ^ bits ≡ guard + guard = twice-guard bits some in
    let d = digits bits n (λ j. r (suc j)) in
    let e = digits bits n (λ j. u (suc j)) in
    let g = r 0 / guard in
    let s = r 0 % guard in
    let first : g * guard + s ≡ r 0 = div-add-mod' (r 0) guard in
    let small : s < guard = mod-lt (r 0) positive in
    let up : g < 2 ^ 1 = below-two g guard s (r 0) (2 ^ bits) first whole (fit.each 0 (omega arith)) in
    let f = d / guard in
    let t = d % guard in
    let second : f * guard + t ≡ d = div-add-mod' d guard in
    let low : t < guard = mod-lt d positive in
    let unit : u 0 < 2 ^ 1 = omega (arith, units.each 0 (omega arith)) in
    let shifted : (d * 2 ^ bits + r 0) / guard ≡ f * 2 ^ bits + (t * 2 ^ 1 + g) =
    ap (λ m. m / guard) (joined d (r 0) guard g s (2 ^ bits) first whole) ∙ shr_high (d * 2 + g) (bits - 1) s small ∙ parted d f t g guard (2 ^ bits) second whole in
    ap (λ m. bit_and m (e * 2 ^ bits + u 0)) shifted
    ∙ and_block bits f e (t * 2 ^ 1 + g) (u 0) (omega (arith, low, up, whole)) (omega (arith, unit, whole, positive))
    ∙ ap₂ (λ a b. a * 2 ^ bits + b)
    (digits-guards bits n (λ j. r (suc j)) (λ j. u (suc j)) some (later-digits bits n r fit) (later-units n u units))
    (lowest t g (u 0) up unit)
  where
    below-two : (g guard s v all : ℕ) → g * guard + s ≡ v → all ≡ guard + guard → v < all → g < 2 ^ 1
    below-two zero guard s v all is whole small = omega arith
    below-two (suc zero) guard s v all is whole small = omega arith
    below-two (suc (suc g)) guard s v all is whole small =
        absurd (let e : suc (suc g) * guard ≡ guard + guard + g * guard = omega arith in omega (arith, is, e, whole, small))

    joined : (d v guard g s all : ℕ) → g * guard + s ≡ v → all ≡ guard + guard → d * all + v ≡ (d * 2 + g) * guard + s
    joined d v guard g s all is whole =
        let e : d * (guard + guard) ≡ d * 2 * guard = omega arith in
        ap₂ (λ a b. d * a + b) whole (sym is) ∙ omega (arith, e)

    parted : (d f t g guard all : ℕ) → f * guard + t ≡ d → all ≡ guard + guard → d * 2 + g ≡ f * all + (t * 2 ^ 1 + g)
    parted d f t g guard all is whole =
        let e : f * (guard + guard) ≡ f * guard + f * guard = omega arith in
        omega (arith, is, e, ap (λ a. f * a) whole)

    lowest : (t g v : ℕ) → g < 2 ^ 1 → v < 2 ^ 1 → bit_and (t * 2 ^ 1 + g) v ≡ bit_and g v
    lowest t g v up unit =
        let e : v ≡ 0 * 2 ^ 1 + v = omega arith in
        ap (bit_and (t * 2 ^ 1 + g)) e ∙ and_block 1 t 0 g v up unit ∙ ap (λ a. a * 2 ^ 1 + bit_and g v) (and_zero_r t) ∙ omega arith

-- of two bits
pub unit-and : (a b : ℕ) → a ≤ 1 → b ≤ 1 → bit_and a b ≡ min a b
unit-and zero b one other = and_zero_l b ∙ omega arith
unit-and (suc zero) zero one other = and_zero_r 1 ∙ omega arith
unit-and (suc zero) (suc zero) one other = and-same 1 ∙ omega arith
unit-and (suc zero) (suc (suc b)) one other = absurd (omega arith)
unit-and (suc (suc a)) b one other = absurd (omega arith)
