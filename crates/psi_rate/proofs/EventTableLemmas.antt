-- Multiples of powers of two, and the entries of a table, stretch by stretch.
use Rattle.std.specs.Prelude.{◌≡◌, ℕ, zero, suc, ◌+◌, ◌-◌, ◌*◌, ◌/◌, ◌%◌, ◌^◌, ◌<◌, ◌≤◌, List, [], ◌∷◌, ◌++◌, length, replicate, slice_index, refl}
use Rattle.std.specs.Int.{w32, bit_at, trailing_zeros}
use Rattle.std.specs.Int.Bits.{bit_and, bit_or}
use Rattle.std.proofs.Common.{rules, inl, inr, ap, ◌∙◌, sym, subst, arith, get_or, length-append, max}
use Rattle.std.proofs.Math.Nat.{div-mul-le_self, div-le_of_le-mul, div-eq_of_eq-mul_left, mod-eq_of_lt, lt-div-mul-add, mul-le-mul_right, zero-mod}
use Rattle.std.proofs.Math.Pow.{mod-mod-pow}
use Rattle.std.proofs.lemmas.Bool.{cases_lt}
use Rattle.std.proofs.lemmas.List.{get_or_default, length-replicate}
use Rattle.std.proofs.lemmas.Nat.{and_mask, field_of, mod-pow-add, pow-add, or_mod, le_or_l, le_or_r, pow_pos, div-add-mod'}
use Rattle.std.proofs.lemmas.Nat.Bits.{bit_at-trailing_zeros, bit_at-pow_other}
use Rattle.std.proofs.lemmas.Grind.{common_steps}
use Rattle.psi_rate.specs.Inner.EventTableKept.{IsFirstAbove, AreFirstAbove, AreMultiples}
use Rattle.psi_rate.proofs.PowersLemmas.{pow-double, pow-order}

-- a number whose k low bits are zero is a multiple of 2^k
pub bits-multiple : (n k : ℕ) → ((i : ℕ) → i < k → bit_at n i ≡ 0) → n % 2 ^ k ≡ 0
bits-multiple n zero zeros = omega arith
bits-multiple n (suc k) zeros =
    let rest : n % 2 ^ k ≡ 0 = bits-multiple n k (λ i small. zeros i (omega arith)) in
    let bit : n / 2 ^ k % 2 ≡ 0 = zeros k (omega arith) in
    let cut : n % 2 ^ (1 + k) ≡ (n / 2 ^ k % 2 ^ 1) * 2 ^ k + n % 2 ^ k = mod-pow-add n 1 k in
    let top : (n / 2 ^ k % 2 ^ 1) * 2 ^ k ≡ 0 * 2 ^ k = ap (λ m. m * 2 ^ k) bit in
    let e : suc k ≡ 1 + k = omega arith in
    ap (λ m. n % 2 ^ m) e ∙ omega arith

pub trailing-multiple : (n : ℕ) → 1 ≤ n → n < 2 ^ 32 → n % 2 ^ trailing_zeros w32 n ≡ 0
trailing-multiple n some fits = (let bits = bit_at-trailing_zeros w32 n (omega arith) fits in bits-multiple n (trailing_zeros w32 n) bits.2)

pub trailing-short : (n : ℕ) → 1 ≤ n → n < 2 ^ 32 → trailing_zeros w32 n < 32
trailing-short n some fits = (let bits = bit_at-trailing_zeros w32 n (omega arith) fits in bits.0)

pub trailing-power : (n k : ℕ) → n ≡ 2 ^ k → n < 2 ^ 32 → trailing_zeros w32 n ≡ k
trailing-power n k is fits =
    let positive = pow_pos k in
    let bits = bit_at-trailing_zeros w32 n (omega arith) fits in
    grind (arith, common_steps, bit_at-pow_other)

pub multiple-less : (n j k : ℕ) → j ≤ k → n % 2 ^ k ≡ 0 → n % 2 ^ j ≡ 0
multiple-less n j k less multiple =
    let e : k - j + j ≡ k = omega arith in
    let long : n % 2 ^ (k - j + j) ≡ 0 = ap (λ m. n % 2 ^ m) e ∙ multiple in
    sym (mod-mod-pow n (k - j) j) ∙ (ap (λ m. m % 2 ^ j) long ∙ zero-mod (2 ^ j))

pub or-multiple : (a b k : ℕ) → bit_or a b % 2 ^ k ≡ 0 → (a % 2 ^ k ≡ 0) × (b % 2 ^ k ≡ 0)
or-multiple a b k multiple = grind (arith, common_steps, or_mod, le_or_l, le_or_r)

-- a multiple above the first number of a stretch is above all its numbers
pub multiple-past : (t p i n : ℕ) → t % p ≡ 0 → i * p < t → n < i * p + p → n < t
multiple-past t p i n multiple above inside = grind (arith, common_steps)

-- the stretch of a number
pub stretch-start : (n p : ℕ) → n / p * p ≤ n
stretch-start n p = div-mul-le_self n p

pub stretch-end : (n k : ℕ) → n < n / 2 ^ k * 2 ^ k + 2 ^ k
stretch-end n k = lt-div-mul-add (pow_pos k)

pub stretch-place : (n p count : ℕ) → n < count * p → n / p < count
stretch-place n p count small = search rules

-- the stretches that begin below a total are those before its quotient, rounded up
pub rounded-past : (t k : ℕ) → t ≤ (t + (2 ^ k - 1)) / 2 ^ k * 2 ^ k
rounded-past t k = search rules

pub rounded-below : (t k i : ℕ) → i < (t + (2 ^ k - 1)) / 2 ^ k → i * 2 ^ k < t
rounded-below t k i small = search rules

pub rounded-within : (t k count : ℕ) → t ≤ count * 2 ^ k → (t + (2 ^ k - 1)) / 2 ^ k ≤ count
rounded-within t k count within = search rules

pub length-filled : (xs : List ℕ) (end e : ℕ) → length (xs ++ replicate (end - length xs) e) ≡ length xs + (end - length xs)
length-filled xs end e = simp (length-append, length-replicate) refl

-- entries that are missing before an end get the event that all their stretches begin with
pub filled-first : (totals xs : List ℕ) (k e end : ℕ) → AreFirstAbove totals k xs → e ≤ length totals
    → ((j : ℕ) → j < e → slice_index totals j ≤ length xs * 2 ^ k)
    → ((i : ℕ) → i < end → e < length totals → i * 2 ^ k < slice_index totals e)
    → AreFirstAbove totals k (xs ++ replicate (end - length xs) e)
filled-first totals xs k e end first place below above = grind (arith, common_steps)

-- what an exact table says of the first number of a stretch is true of all its numbers
pub first-event : (totals : List ℕ) (k n e : ℕ) → AreMultiples totals k → IsFirstAbove totals (n / 2 ^ k * 2 ^ k) e → IsFirstAbove totals n e
first-event totals k n e multiples first = grind (arith, common_steps)

pub filled-next : (xs ys : List ℕ) (at e : ℕ) → length xs ≤ at → ys ≡ xs ++ replicate (at - length xs) e → ys ++ e ∷ [] ≡ xs ++ replicate (at + 1 - length xs) e
filled-next xs ys at e start is = grind (arith, common_steps)

-- after a total's stretches are filled, none of the totals so far is past the next stretch's first number
pub filled-below : (totals xs : List ℕ) (k e : ℕ) → ((j : ℕ) → j < e → slice_index totals j ≤ length xs * 2 ^ k)
    → (m : ℕ) → length xs ≤ m → slice_index totals e ≤ m * 2 ^ k → (j : ℕ) → j < e + 1 → slice_index totals j ≤ m * 2 ^ k
filled-below totals xs k e below m longer past = grind (arith, common_steps)

pub multiple-whole : (n p : ℕ) → n % p ≡ 0 → n / p * p ≡ n
multiple-whole n p multiple = (let cut = div-add-mod' n p in omega arith)

-- a shift whose power of two divides another one is at most its exponent
pub multiple-exponent : (n e k : ℕ) → n ≡ 2 ^ e → n % 2 ^ k ≡ 0 → k ≤ e
multiple-exponent n e k is multiple =
    elim (cases_lt e k) [
      | inl less ↦ (let positive = pow_pos e in
          let next : 2 ^ suc e ≤ 2 ^ k = pow-order (suc e) k (omega arith) in
          let double = pow-double e in
          let small : n < 2 ^ k = omega arith in
          let own : n % 2 ^ k ≡ n = mod-eq_of_lt small in
          absurd (omega arith))
      | inr more ↦ more
    ]

-- what holds of the stretches of the length that a table chooses: they make up the numbers below the modulus, and are a power of two and at most 4,096
pub record AreStretches (n shift : ℕ) : Type 0 where
  pub whole : n / 2 ^ shift * 2 ^ shift ≡ n
  pub short : shift < 32
  pub few : n / 2 ^ shift ≤ 4096
  pub exponent : ℕ
  pub power : n / 2 ^ shift ≡ 2 ^ exponent
  pub some : 1 ≤ n / 2 ^ shift

pub shift-stretches : (n e common least shift : ℕ) → n ≡ 2 ^ e → n < 2 ^ 32 → common < 32 → n % 2 ^ common ≡ 0 → least ≡ trailing_zeros w32 n - 12 → shift ≡ max common least
    → AreStretches n shift
shift-stretches n e common least shift is fits short multiple fewest most = record {
  whole = multiple-whole n (2 ^ shift) whole;
  short = (let own = trailing-short n some fits in omega arith);
  few = div-le_of_le-mul (2 ^ shift) (omega (arith, order, parts));
  exponent = e - shift;
  power = power;
  some = (let positive = pow_pos (e - shift) in omega (arith, power));
}
  where
    some : 1 ≤ n
    some = (let positive = pow_pos e in omega arith)

    exponent : trailing_zeros w32 n ≡ e
    exponent = trailing-power n e is fits

    whole : n % 2 ^ shift ≡ 0
    whole = elim (cases_lt common shift) [
      | inl less ↦ (let own : shift ≤ trailing_zeros w32 n = omega arith in multiple-less n shift (trailing_zeros w32 n) own (trailing-multiple n some fits))
      | inr more ↦ multiple-less n shift common more multiple
    ]

    order : 2 ^ e ≤ 2 ^ (shift + 12)
    order = pow-order e (shift + 12) (omega (arith, exponent))

    parts : 2 ^ (shift + 12) ≡ 2 ^ shift * 2 ^ 12
    parts = pow-add 2 shift 12

    power : n / 2 ^ shift ≡ 2 ^ (e - shift)
    power =
        let within : shift ≤ e = multiple-exponent n e shift is whole in
        let back : e - shift + shift ≡ e = omega arith in
        let cut : 2 ^ (e - shift + shift) ≡ 2 ^ (e - shift) * 2 ^ shift = pow-add 2 (e - shift) shift in
        let same : 2 ^ (e - shift + shift) ≡ 2 ^ e = ap (λ m. 2 ^ m) back in
        div-eq_of_eq-mul_left (pow_pos shift) (omega arith)

-- the stretch of a word is that of its number
pub word-stretch : (word modulus count last j k : ℕ) → count ≡ 2 ^ j → count ≡ last + 1 → count * 2 ^ k ≡ modulus
    → bit_and (word / 2 ^ k) last ≡ word % modulus / 2 ^ k
word-stretch word modulus count last j k power places whole =
    let ones : last ≡ 2 ^ j - 1 = omega arith in
    let all : 2 ^ (j + k) ≡ modulus = pow-add 2 j k ∙ (ap (λ n. n * 2 ^ k) (sym power) ∙ whole) in
    ap (λ n. bit_and (word / 2 ^ k) n) ones ∙ (and_mask (word / 2 ^ k) j ∙ (sym (field_of word j k) ∙ ap (λ n. word % n / 2 ^ k) all))

pub word-number : (word modulus count j k : ℕ) → count ≡ 2 ^ j → count * 2 ^ k ≡ modulus → bit_and word (modulus - 1) ≡ word % modulus
word-number word modulus count j k power whole =
    let all : 2 ^ (j + k) ≡ modulus = pow-add 2 j k ∙ (ap (λ n. n * 2 ^ k) (sym power) ∙ whole) in
    subst (λ n. bit_and word (n - 1) ≡ word % n) all (and_mask word (j + k))

pub word-below : (word modulus count j k : ℕ) → count ≡ 2 ^ j → count * 2 ^ k ≡ modulus → word % modulus < modulus
word-below word modulus count j k power whole = search rules

-- the entry of a word is the event of the first number of its stretch
pub entry-first : (totals entries : List ℕ) (modulus last k word entry j : ℕ) → length entries ≡ 2 ^ j → length entries ≡ last + 1 → length entries * 2 ^ k ≡ modulus
    → AreFirstAbove totals k entries → entry ≡ get_or entries (bit_and (word / 2 ^ k) last) entry → IsFirstAbove totals (word % modulus / 2 ^ k * 2 ^ k) entry
entry-first totals entries modulus last k word entry j power places whole first is =
    subst (λ (n : ℕ). IsFirstAbove totals (word % modulus / 2 ^ k * 2 ^ k) n) same (first.each (word % modulus / 2 ^ k) small)
  where
    small : word % modulus / 2 ^ k < length entries
    small = stretch-place (word % modulus) (2 ^ k) (length entries) (let below = word-below word modulus (length entries) j k power whole in omega arith)

    same : slice_index entries (word % modulus / 2 ^ k) ≡ entry
    same =
        let place = word-stretch word modulus (length entries) last j k power places whole in
        get_or_default entries (word % modulus / 2 ^ k) 0 entry small ∙ (ap (λ n. get_or entries n entry) (sym place) ∙ sym is)

-- the stretches that begin below a total get its event
pub filled-stretch : (totals xs ys : List ℕ) (k e count last : ℕ) → last ≡ 2 ^ k - 1 → ys ≡ xs ++ replicate ((slice_index totals e + last) / 2 ^ k - length xs) e
    → e < length totals → slice_index totals e ≤ count * 2 ^ k → length xs ≤ count → AreFirstAbove totals k xs
    → ((j : ℕ) → j < e → slice_index totals j ≤ length xs * 2 ^ k)
    → (length ys ≤ count) × ((j : ℕ) → j < e + 1 → slice_index totals j ≤ length ys * 2 ^ k) × AreFirstAbove totals k ys
filled-stretch totals xs ys k e count last ones is place within most first below = (
  omega (arith, long, under),
  filled-below totals xs k e below (length ys) (omega (arith, long)) past,
  subst (λ (zs : List ℕ). AreFirstAbove totals k zs) (sym filled)
      (filled-first totals xs k e end first (omega arith) below (λ i small own. rounded-below total k i small)),
)
  where
    total : ℕ
    total = slice_index totals e

    end : ℕ
    end = (slice_index totals e + (2 ^ k - 1)) / 2 ^ k

    filled : ys ≡ xs ++ replicate (end - length xs) e
    filled = is ∙ ap (λ n. xs ++ replicate ((slice_index totals e + n) / 2 ^ k - length xs) e) ones

    long : length ys ≡ length xs + (end - length xs)
    long = ap (λ (zs : List ℕ). length zs) filled ∙ length-filled xs end e

    under : end ≤ count
    under = rounded-within total k count within

    past : total ≤ length ys * 2 ^ k
    past =
        let over : total ≤ end * 2 ^ k = rounded-past total k in
        let order : end * 2 ^ k ≤ length ys * 2 ^ k = mul-le-mul_right (2 ^ k) (omega (arith, long)) in
        omega arith
