-- Sets of sums by their bits.
use Rattle.std.proofs.Common.{rules, ◌≡◌, ◌⊎◌, ◌↔◌, ℕ, zero, suc, ◌+◌, ◌-◌, ◌*◌, ◌/◌, ◌%◌, ◌^◌, ◌<◌, ◌≤◌, min, max, true, false, List, [], ◌∷◌, slice_index, slice_set, length, inl, inr, ap, sym, ◌∙◌, subst, arith, refl, get_or-set_same, get_or-set_other}
use Rattle.std.specs.Int.{bit_at}
use Rattle.std.specs.Int.RustNames.{bit_or}
use Rattle.std.specs.Prelude.{bit_and}
use Rattle.std.specs.Int.{w64}
use Rattle.std.proofs.lemmas.Bool.{cases_eq, cases_lt, eqb-true, eq-eqb, cases_Bool}
use Rattle.std.proofs.lemmas.Nat.{le_or_l, le_or_r}
use Rattle.std.proofs.lemmas.Nat.Bits.{bit_at_and, bit_at_or, bit_at-lt, bit_at_not, bit_at-zero, bit_at_ones, ones_shl, bit_at_mask_inside, bit_at_mask_below, bit_at-trailing_zeros, bit_at_set_same, bit_at_set_other, bit_at_above, bit_at_cat_low, bit_at_cat_high, bit_at_lowest, bit_at-suc}
use Rattle.std.proofs.lemmas.Grind.{common_steps}
use Rattle.psi_closed_arcs.specs.declared.sums.Sums.{Sums}
use Rattle.psi_closed_arcs.specs.Sums.{has}

pub five : (P : ℕ → Type 0) → P 0 → P 1 → P 2 → P 3 → P 4 → (k : ℕ) → k < 5 → P k
five P a b c d e zero h = a
five P a b c d e (suc zero) h = b
five P a b c d e (suc (suc zero)) h = c
five P a b c d e (suc (suc (suc zero))) h = d
five P a b c d e (suc (suc (suc (suc zero)))) h = e
five P a b c d e (suc (suc (suc (suc (suc k))))) h = absurd (omega arith)

words-at : (f : ℕ → ℕ) (k : ℕ) → k < 5 → slice_index (f 0 ∷ f 1 ∷ f 2 ∷ f 3 ∷ f 4 ∷ []) k ≡ f k
words-at f = five (λ k. slice_index (f 0 ∷ f 1 ∷ f 2 ∷ f 3 ∷ f 4 ∷ []) k ≡ f k) refl refl refl refl refl

-- a number is in a set exactly where its bit is one
pub has-bit : (x : Sums) (t : ℕ) → (has x t ≡ true) ↔ (bit_at (slice_index x.words (t / 64)) (t % 64) ≡ 1)
unfolding has
has-bit x t = (λ given. eqb-true (bit_at (slice_index x.words (t / 64)) (t % 64)) 1 given, λ one. eq-eqb (bit_at (slice_index x.words (t / 64)) (t % 64)) 1 one)

pub has-at : (f : ℕ → ℕ) (t : ℕ) → t < 320 → (has (record { words = f 0 ∷ f 1 ∷ f 2 ∷ f 3 ∷ f 4 ∷ [] }) t ≡ true) ↔ (bit_at (f (t / 64)) (t % 64) ≡ 1)
has-at f t small = grind (arith, common_steps, true, words-at, has-bit)

pub not-has : (x : Sums) (t : ℕ) → (has x t ≡ true → ⊥) → has x t ≡ false
not-has x t deny = elim (cases_Bool (has x t)) [ inl given ↦ absurd (deny given) | inr none ↦ none ]

pub same-has : (x y : Sums) (s t : ℕ) → ((has x s ≡ true) ↔ (has y t ≡ true)) → has x s ≡ has y t
same-has x y s t same = search rules

zero-one : {n : ℕ} → n ≡ 0 → n ≡ 1 → ⊥
zero-one none one = absurd (omega arith)

or-one : (p q r : ℕ) → r ≡ max p q → p < 2 → q < 2 → (r ≡ 1) ↔ ((p ≡ 1) ⊎ (q ≡ 1))
or-one p q r is a b = search rules

and-one : (p q r : ℕ) → r ≡ min p q → p < 2 → q < 2 → (r ≡ 1) ↔ ((p ≡ 1) × (q ≡ 1))
and-one p q r is a b = (λ one. (omega arith, omega arith), λ both. (let left = both.0 in let right = both.1 in omega arith))

pub bit-or : (a b i : ℕ) → (bit_at (bit_or a b) i ≡ 1) ↔ ((bit_at a i ≡ 1) ⊎ (bit_at b i ≡ 1))
bit-or a b i = or-one (bit_at a i) (bit_at b i) (bit_at (bit_or a b) i) (bit_at_or a b i) (bit_at-lt a i) (bit_at-lt b i)

pub bit-and : (a b i : ℕ) → (bit_at (bit_and a b) i ≡ 1) ↔ ((bit_at a i ≡ 1) × (bit_at b i ≡ 1))
bit-and a b i = and-one (bit_at a i) (bit_at b i) (bit_at (bit_and a b) i) (bit_at_and a b i) (bit_at-lt a i) (bit_at-lt b i)

pub has-or : (x y : Sums) (t : ℕ) → t < 320 → (has (record { words = bit_or (slice_index x.words 0) (slice_index y.words 0) ∷ bit_or (slice_index x.words 1) (slice_index y.words 1) ∷ bit_or (slice_index x.words 2) (slice_index y.words 2) ∷ bit_or (slice_index x.words 3) (slice_index y.words 3) ∷ bit_or (slice_index x.words 4) (slice_index y.words 4) ∷ [] }) t ≡ true)
    ↔ ((has x t ≡ true) ⊎ (has y t ≡ true))
has-or x y t small =
    let whole = has-at (λ k. bit_or (slice_index x.words k) (slice_index y.words k)) t small in
    let parts = bit-or (slice_index x.words (t / 64)) (slice_index y.words (t / 64)) (t % 64) in
    let one = has-bit x t in
    let other = has-bit y t in (
      λ given. elim (parts.0 (whole.0 given)) [ inl a ↦ inl (one.1 a) | inr b ↦ inr (other.1 b) ],
      λ either. whole.1 (parts.1 (elim either [ inl a ↦ inl (one.0 a) | inr b ↦ inr (other.0 b) ])),
    )

pub has-and : (x y : Sums) (t : ℕ) → t < 320 → (has (record { words = bit_and (slice_index x.words 0) (slice_index y.words 0) ∷ bit_and (slice_index x.words 1) (slice_index y.words 1) ∷ bit_and (slice_index x.words 2) (slice_index y.words 2) ∷ bit_and (slice_index x.words 3) (slice_index y.words 3) ∷ bit_and (slice_index x.words 4) (slice_index y.words 4) ∷ [] }) t ≡ true)
    ↔ ((has x t ≡ true) × (has y t ≡ true))
has-and x y t small =
    let whole = has-at (λ k. bit_and (slice_index x.words k) (slice_index y.words k)) t small in
    let parts = bit-and (slice_index x.words (t / 64)) (slice_index y.words (t / 64)) (t % 64) in
    let one = has-bit x t in
    let other = has-bit y t in (
      λ given. (let both = parts.0 (whole.0 given) in (one.1 both.0, other.1 both.1)),
      λ both. whole.1 (parts.1 (one.0 both.0, other.0 both.1)),
    )

-- the bits of a word, 64 numbers from 64 times its place on, that stand for numbers of which P holds
abbrev pub IsMask : (ℕ → Type 0) → ℕ → ℕ → Type 0
IsMask P word n = (i : ℕ) → i < 64 → (bit_at n i ≡ 1) ↔ P (word * 64 + i)

pub has-masked : (x : Sums) (P : ℕ → Type 0) (a b c d e t : ℕ) → IsMask P 0 a → IsMask P 1 b → IsMask P 2 c → IsMask P 3 d → IsMask P 4 e → t < 320
    → (has (record { words = bit_and (slice_index x.words 0) a ∷ bit_and (slice_index x.words 1) b ∷ bit_and (slice_index x.words 2) c ∷ bit_and (slice_index x.words 3) d ∷ bit_and (slice_index x.words 4) e ∷ [] }) t ≡ true)
    ↔ ((has x t ≡ true) × P t)
has-masked x P a b c d e t sa sb sc sd se small =
    let whole = has-at (λ k. bit_and (slice_index x.words k) (slice_index (a ∷ b ∷ c ∷ d ∷ e ∷ []) k)) t small in
    let parts = bit-and (slice_index x.words (t / 64)) (slice_index (a ∷ b ∷ c ∷ d ∷ e ∷ []) (t / 64)) (t % 64) in
    let one = has-bit x t in
    let mask = five (λ k. IsMask P k (slice_index (a ∷ b ∷ c ∷ d ∷ e ∷ []) k)) sa sb sc sd se (t / 64) (omega arith) (t % 64) (omega arith) in
    let place : t / 64 * 64 + t % 64 ≡ t = omega arith in (
      λ given. (let both = parts.0 (whole.0 given) in (one.1 both.0, subst P place (mask.0 both.1))),
      λ both. whole.1 (parts.1 (one.0 both.0, mask.1 (subst P (sym place) both.1))),
    )

-- the ones of a word from a place on, and their stretch
pub ones-inside : (low i : ℕ) → low < 64 → i < 64 → low ≤ i → bit_at (18446744073709551615 * 2 ^ low % 18446744073709551616) i ≡ 1
ones-inside low i less small more = ap (λ n. bit_at n i) (ones_shl 64 low (omega arith)) ∙ bit_at_mask_inside low 64 i more small

pub ones-below : (low i : ℕ) → low < 64 → i < low → bit_at (18446744073709551615 * 2 ^ low % 18446744073709551616) i ≡ 0
ones-below low i less more = ap (λ n. bit_at n i) (ones_shl 64 low (omega arith)) ∙ bit_at_mask_below low 64 i more

not-one : (p q : ℕ) → q ≡ 1 - p → p < 2 → (q ≡ 1) ↔ (p ≡ 0)
not-one p q is a = (λ one. omega arith, λ none. omega arith)

-- those from a number on, and those below it
pub ones-mask : (word first low : ℕ) → low ≡ first - word * 64 → low < 64 → IsMask (λ t. first ≤ t) word (18446744073709551615 * 2 ^ low % 18446744073709551616)
ones-mask word first low is less i small = grind (arith, common_steps, zero-one, ones-below, ones-inside)

pub no-mask : (word first : ℕ) → 64 ≤ first - word * 64 → IsMask (λ t. first ≤ t) word 0
no-mask word first far i small = (λ one. absurd (zero-one (bit_at-zero i) one), λ more. absurd (omega arith))

pub rest-mask : (word end b : ℕ) → b < 2 ^ 64 → IsMask (λ t. end ≤ t) word b → IsMask (λ t. t < end) word (18446744073709551615 - b)
rest-mask word end b fits mask i small =
    let other = not-one (bit_at b i) (bit_at (18446744073709551615 - b) i) (bit_at_not w64 b i fits small) (bit_at-lt b i) in
    let bit = bit_at-lt b i in (
      λ one. elim (cases_lt (word * 64 + i) end) [ inl less ↦ less | inr more ↦ absurd (zero-one (other.0 one) ((mask i small).1 more)) ],
      λ less. other.1 (elim (cases_eq (bit_at b i) 1) [ inl one ↦ absurd (let more = (mask i small).0 one in omega arith) | inr none ↦ omega arith ]),
    )

-- a number that isn't 0 has a one
pub some-bit : (n : ℕ) → 0 < n → n < 2 ^ 64 → (i : ℕ) × (i < 64) × (bit_at n i ≡ 1)
some-bit n some fits = (let found = bit_at-trailing_zeros w64 n some fits in (_, found.0, found.1))

pub has-word : (x : Sums) (k i : ℕ) → i < 64 → bit_at (slice_index x.words k) i ≡ 1 → has x (k * 64 + i) ≡ true
has-word x k i small one = grind (arith, common_steps, has-bit)

or-zero : (a b : ℕ) → bit_or a b ≡ 0 → (a ≡ 0) × (b ≡ 0)
or-zero a b none = (let left = le_or_l a b in let right = le_or_r a b in (omega arith, omega arith))

pub is-none : (x : Sums) → bit_or (bit_or (bit_or (bit_or (slice_index x.words 0) (slice_index x.words 1)) (slice_index x.words 2)) (slice_index x.words 3)) (slice_index x.words 4) ≡ 0 → (t : ℕ) → t < 320 → has x t ≡ false
is-none x none t small = grind (arith, common_steps, or-zero, five, not-has, zero-one, bit_at-zero, has-bit)

pub is-some : (x : Sums) → ((k : ℕ) → k < 5 → slice_index x.words k < 2 ^ 64) → (bit_or (bit_or (bit_or (bit_or (slice_index x.words 0) (slice_index x.words 1)) (slice_index x.words 2)) (slice_index x.words 3)) (slice_index x.words 4) ≡ 0 → ⊥)
    → (t : ℕ) × (t < 320) × (has x t ≡ true)
is-some x fits some =
    let word : (k : ℕ) → k < 5 → (slice_index x.words k ≡ 0 → ⊥) → (t : ℕ) × (t < 320) × (has x t ≡ true) = λ k less other.
    (let found = some-bit (slice_index x.words k) (omega arith) (fits k less) in let small = found.1 in (k * 64 + found.0, omega arith, has-word x k found.0 found.1 found.2)) in
    elim (cases_eq (slice_index x.words 0) 0) [
      | inr other ↦ word 0 (omega arith) other
      | inl a ↦ elim (cases_eq (slice_index x.words 1) 0) [
        | inr other ↦ word 1 (omega arith) other
        | inl b ↦ (grind (arith, common_steps))
      ]
    ]

-- a number is put into a set
pub has-insert : (x : Sums) (sum t : ℕ) → sum < 320 → t < 320 → length x.words ≡ 5
    → (has (record { words = slice_set x.words (sum / 64) (bit_or (slice_index x.words (sum / 64)) (1 * 2 ^ (sum % 64) % 18446744073709551616)) }) t ≡ true) ↔ ((t ≡ sum) ⊎ (has x t ≡ true))
has-insert x sum t small less long =
    let w = bit_or (slice_index x.words (sum / 64)) (1 * 2 ^ (sum % 64) % 18446744073709551616) in
    let y : Sums = record { words = slice_set x.words (sum / 64) (bit_or (slice_index x.words (sum / 64)) (1 * 2 ^ (sum % 64) % 18446744073709551616)) } in
    let new = has-bit (record { words = slice_set x.words (sum / 64) (bit_or (slice_index x.words (sum / 64)) (1 * 2 ^ (sum % 64) % 18446744073709551616)) }) t in
    let old = has-bit x t in
    elim (cases_eq (t / 64) (sum / 64)) [
      | inl word ↦ (
          let read : slice_index (slice_set x.words (sum / 64) (bit_or (slice_index x.words (sum / 64)) (1 * 2 ^ (sum % 64) % 18446744073709551616))) (t / 64) ≡ bit_or (slice_index x.words (sum / 64)) (1 * 2 ^ (sum % 64) % 18446744073709551616) =
          ap (λ k. slice_index (slice_set x.words (sum / 64) (bit_or (slice_index x.words (sum / 64)) (1 * 2 ^ (sum % 64) % 18446744073709551616))) k) word
          ∙ get_or-set_same x.words (sum / 64) (bit_or (slice_index x.words (sum / 64)) (1 * 2 ^ (sum % 64) % 18446744073709551616)) 0 (omega arith) in
          elim (cases_eq (t % 64) (sum % 64)) [
            | inl bit ↦ (
              λ given. inl (omega arith),
              λ either. new.1 (ap (λ n. bit_at n (t % 64)) read ∙ (ap (λ i. bit_at (bit_or (slice_index x.words (sum / 64)) (1 * 2 ^ (sum % 64) % 18446744073709551616)) i) bit
                  ∙ bit_at_set_same w64 (slice_index x.words (sum / 64)) (sum % 64) (omega arith))),
            )
            | inr other ↦ (
                let same = ap (λ n. bit_at n (t % 64)) read ∙ (bit_at_set_other w64 (slice_index x.words (sum / 64)) (sum % 64) (omega arith) (t % 64) other ∙ ap (λ k. bit_at (slice_index x.words k) (t % 64)) (sym word)) in
                (λ given. inr (old.1 (sym same ∙ new.0 given)), λ either. new.1 (same ∙ elim either [ inl e ↦ absurd (omega arith) | inr given ↦ old.0 given ])))
          ])
      | inr other ↦ (
          let read : slice_index (slice_set x.words (sum / 64) (bit_or (slice_index x.words (sum / 64)) (1 * 2 ^ (sum % 64) % 18446744073709551616))) (t / 64) ≡ slice_index x.words (t / 64) =
          get_or-set_other x.words (sum / 64) (t / 64) (bit_or (slice_index x.words (sum / 64)) (1 * 2 ^ (sum % 64) % 18446744073709551616)) 0 (λ e. other e) in
          let same = ap (λ n. bit_at n (t % 64)) read in
          (λ given. inr (old.1 (sym same ∙ new.0 given)), λ either. new.1 (same ∙ elim either [ inl e ↦ absurd (other (ap (λ k. k / 64) e)) | inr given ↦ old.0 given ])))
    ]

-- the words of a set whose numbers are one higher, or one lower
abbrev pub up-word : List ℕ → ℕ → ℕ
up-word ws zero = slice_index ws 0 * 2 % 18446744073709551616
up-word ws (suc k) = bit_or (slice_index ws (suc k) * 2 % 18446744073709551616) (slice_index ws k / 9223372036854775808)

shifted-low : (a : ℕ) → bit_at (a * 2 % 18446744073709551616) 0 ≡ 0
shifted-low a = bit_at_lowest (a * 2 % 18446744073709551616) ∙ omega arith

doubled : (a : ℕ) → a * 2 % 18446744073709551616 ≡ (a % 9223372036854775808) * 2 ^ 1 + 0
doubled a = omega arith

shifted-next : (a i : ℕ) → i < 63 → bit_at (a * 2 % 18446744073709551616) (suc i) ≡ bit_at a i
shifted-next a i small =
    let part : a ≡ a / 9223372036854775808 * 2 ^ 63 + a % 9223372036854775808 = omega arith in
    ap (λ n. bit_at n (suc i)) (doubled a)
    ∙ (bit_at_cat_high (a % 9223372036854775808) 1 0 (suc i) (omega arith) (omega arith)
    ∙ (ap (λ k. bit_at (a % 9223372036854775808) k) (omega arith)
    ∙ (sym (bit_at_cat_low (a / 9223372036854775808) 63 (a % 9223372036854775808) i small) ∙ ap (λ n. bit_at n i) (sym part))))

over : (p q r : ℕ) → r ≡ max p q → q ≡ 0 → r ≡ p
over p q r is none = omega arith

under : (p q r : ℕ) → r ≡ max p q → p ≡ 0 → r ≡ q
under p q r is none = omega arith

up-bit : (ws : List ℕ) (k i : ℕ) → i < 63 → ((j : ℕ) → j < 5 → slice_index ws j < 2 ^ 64) → k < 5 → bit_at (up-word ws k) (suc i) ≡ bit_at (slice_index ws k) i
up-bit ws zero i small fits less = shifted-next (slice_index ws 0) i small
up-bit ws (suc k) i small fits less = grind (arith, common_steps, over, bit_at_or, bit_at_above, shifted-next)

up-carry : (ws : List ℕ) (k : ℕ) → bit_at (up-word ws (suc k)) 0 ≡ bit_at (slice_index ws k) 63
up-carry ws k =
    under (bit_at (slice_index ws (suc k) * 2 % 18446744073709551616) 0) (bit_at (slice_index ws k / 9223372036854775808) 0) (bit_at (up-word ws (suc k)) 0)
    (bit_at_or (slice_index ws (suc k) * 2 % 18446744073709551616) (slice_index ws k / 9223372036854775808) 0) (shifted-low (slice_index ws (suc k)))
    ∙ bit_at_lowest (slice_index ws k / 9223372036854775808)

up-at : (ws : List ℕ) (t : ℕ) → ((j : ℕ) → j < 5 → slice_index ws j < 2 ^ 64) → suc t < 320 → bit_at (up-word ws (suc t / 64)) (suc t % 64) ≡ bit_at (slice_index ws (t / 64)) (t % 64)
up-at ws t fits small = elim (cases_lt (t % 64) 63) [
  | inl less ↦ (
      let word : suc t / 64 ≡ t / 64 = omega arith in
      let bit : suc t % 64 ≡ suc (t % 64) = omega arith in
      ap (λ k. bit_at (up-word ws k) (suc t % 64)) word ∙ (ap (λ i. bit_at (up-word ws (t / 64)) i) bit ∙ up-bit ws (t / 64) (t % 64) less fits (omega arith)))
  | inr last ↦ (
      let word : suc t / 64 ≡ suc (t / 64) = omega arith in
      let bit : suc t % 64 ≡ 0 = omega arith in
      let old : t % 64 ≡ 63 = omega arith in
      ap (λ k. bit_at (up-word ws k) (suc t % 64)) word ∙ (ap (λ i. bit_at (up-word ws (suc (t / 64))) i) bit ∙ (up-carry ws (t / 64) ∙ ap (λ i. bit_at (slice_index ws (t / 64)) i) (sym old))))
]

pub up-others : (x : Sums) → ((j : ℕ) → j < 5 → slice_index x.words j < 2 ^ 64) → (t : ℕ) → suc t < 320
    → has (record { words = up-word x.words 0 ∷ up-word x.words 1 ∷ up-word x.words 2 ∷ up-word x.words 3 ∷ up-word x.words 4 ∷ [] }) (suc t) ≡ has x t
up-others x fits t small =
    let y : Sums = record { words = up-word x.words 0 ∷ up-word x.words 1 ∷ up-word x.words 2 ∷ up-word x.words 3 ∷ up-word x.words 4 ∷ [] } in
    let same = up-at x.words t fits small in
    let new = has-at (up-word x.words) (suc t) small in
    let old = has-bit x t in
    same-has (record { words = up-word x.words 0 ∷ up-word x.words 1 ∷ up-word x.words 2 ∷ up-word x.words 3 ∷ up-word x.words 4 ∷ [] }) x (suc t) t
    (λ given. old.1 (sym same ∙ new.0 given), λ given. new.1 (same ∙ old.0 given))

pub up-first : (x : Sums) → has (record { words = up-word x.words 0 ∷ up-word x.words 1 ∷ up-word x.words 2 ∷ up-word x.words 3 ∷ up-word x.words 4 ∷ [] }) 0 ≡ false
up-first x =
    not-has (record { words = up-word x.words 0 ∷ up-word x.words 1 ∷ up-word x.words 2 ∷ up-word x.words 3 ∷ up-word x.words 4 ∷ [] }) 0
    (λ given. zero-one (shifted-low (slice_index x.words 0)) ((has-at (up-word x.words) 0 (omega arith)).0 given))

-- what comes down from the next word
abbrev pub down-word : ℕ → ℕ → ℕ
down-word a b = bit_or (a / 2) (b * 9223372036854775808 % 18446744073709551616)

carried : (b : ℕ) → b * 9223372036854775808 % 18446744073709551616 ≡ (b % 2) * 2 ^ 63 + 0
carried b = omega arith

down-bit : (a b i : ℕ) → i < 63 → bit_at (down-word a b) i ≡ bit_at a (suc i)
down-bit a b i small =
    over (bit_at (a / 2) i) (bit_at (b * 9223372036854775808 % 18446744073709551616) i) (bit_at (down-word a b) i) (bit_at_or (a / 2) (b * 9223372036854775808 % 18446744073709551616) i)
    (ap (λ n. bit_at n i) (carried b) ∙ (bit_at_cat_low (b % 2) 63 0 i small ∙ bit_at-zero i))
    ∙ sym (bit_at-suc a i)

down-carry : (a b : ℕ) → a < 2 ^ 64 → bit_at (down-word a b) 63 ≡ bit_at b 0
down-carry a b fits =
    under (bit_at (a / 2) 63) (bit_at (b * 9223372036854775808 % 18446744073709551616) 63) (bit_at (down-word a b) 63) (bit_at_or (a / 2) (b * 9223372036854775808 % 18446744073709551616) 63)
    (bit_at_above (a / 2) 63 63 (omega arith) (omega arith))
    ∙ (ap (λ n. bit_at n 63) (carried b) ∙ (bit_at_cat_high (b % 2) 63 0 63 (omega arith) (omega arith) ∙ (bit_at_lowest (b % 2) ∙ (omega arith ∙ sym (bit_at_lowest b)))))

abbrev pub down-words : List ℕ → ℕ → ℕ
down-words ws k = slice_index (down-word (slice_index ws 0) (slice_index ws 1) ∷ down-word (slice_index ws 1) (slice_index ws 2) ∷ down-word (slice_index ws 2) (slice_index ws 3) ∷ down-word (slice_index ws 3) (slice_index ws 4) ∷ slice_index ws 4 / 2 ∷ []) k

down-at : (ws : List ℕ) (t : ℕ) → ((j : ℕ) → j < 5 → slice_index ws j < 2 ^ 64) → suc t < 320 → bit_at (down-words ws (t / 64)) (t % 64) ≡ bit_at (slice_index ws (suc t / 64)) (suc t % 64)
down-at ws t fits small = elim (cases_lt (t % 64) 63) [
  | inl less ↦ (
      let word : suc t / 64 ≡ t / 64 = omega arith in
      let bit : suc t % 64 ≡ suc (t % 64) = omega arith in
      five (λ k. bit_at (down-words ws k) (t % 64) ≡ bit_at (slice_index ws k) (suc (t % 64)))
      (down-bit (slice_index ws 0) (slice_index ws 1) (t % 64) less) (down-bit (slice_index ws 1) (slice_index ws 2) (t % 64) less)
      (down-bit (slice_index ws 2) (slice_index ws 3) (t % 64) less) (down-bit (slice_index ws 3) (slice_index ws 4) (t % 64) less)
      (sym (bit_at-suc (slice_index ws 4) (t % 64))) (t / 64) (omega arith)
      ∙ sym (ap (λ k. bit_at (slice_index ws k) (suc t % 64)) word ∙ ap (λ i. bit_at (slice_index ws (t / 64)) i) bit))
  | inr last ↦ (
      let word : suc t / 64 ≡ suc (t / 64) = omega arith in
      let bit : suc t % 64 ≡ 0 = omega arith in
      let old : t % 64 ≡ 63 = omega arith in
      ap (λ i. bit_at (down-words ws (t / 64)) i) old
      ∙ (five (λ k. k < 4 → bit_at (down-words ws k) 63 ≡ bit_at (slice_index ws (suc k)) 0)
      (λ inside. down-carry (slice_index ws 0) (slice_index ws 1) (fits 0 (omega arith))) (λ inside. down-carry (slice_index ws 1) (slice_index ws 2) (fits 1 (omega arith)))
      (λ inside. down-carry (slice_index ws 2) (slice_index ws 3) (fits 2 (omega arith))) (λ inside. down-carry (slice_index ws 3) (slice_index ws 4) (fits 3 (omega arith)))
      (λ inside. absurd (omega arith)) (t / 64) (omega arith) (omega arith)
      ∙ sym (ap (λ k. bit_at (slice_index ws k) (suc t % 64)) word ∙ ap (λ i. bit_at (slice_index ws (suc (t / 64))) i) bit)))
]

pub down-others : (x : Sums) → ((j : ℕ) → j < 5 → slice_index x.words j < 2 ^ 64) → (t : ℕ) → suc t < 320
    → has (record { words = down-words x.words 0 ∷ down-words x.words 1 ∷ down-words x.words 2 ∷ down-words x.words 3 ∷ down-words x.words 4 ∷ [] }) t ≡ has x (suc t)
down-others x fits t small = grind (arith, common_steps, down-at, has-at, has-bit, same-has)

pub down-last : (x : Sums) → ((j : ℕ) → j < 5 → slice_index x.words j < 2 ^ 64)
    → has (record { words = down-words x.words 0 ∷ down-words x.words 1 ∷ down-words x.words 2 ∷ down-words x.words 3 ∷ down-words x.words 4 ∷ [] }) 319 ≡ false
down-last x fits =
    let bound = fits 4 (omega arith) in
    not-has (record { words = down-words x.words 0 ∷ down-words x.words 1 ∷ down-words x.words 2 ∷ down-words x.words 3 ∷ down-words x.words 4 ∷ [] }) 319
    (λ given. zero-one (bit_at_above (slice_index x.words 4 / 2) 63 63 (omega arith) (omega arith)) ((has-at (down-words x.words) 319 (omega arith)).0 given))

pub none-has : (t : ℕ) → t < 320 → has (record { words = 0 ∷ 0 ∷ 0 ∷ 0 ∷ 0 ∷ [] }) t ≡ false
none-has t small =
    not-has (record { words = 0 ∷ 0 ∷ 0 ∷ 0 ∷ 0 ∷ [] }) t (λ given. zero-one (bit_at-zero (t % 64)) ((has-at (λ k. 0) t small).0 given))

pub all-has : (t : ℕ) → t < 320 → has (record { words = 18446744073709551615 ∷ 18446744073709551615 ∷ 18446744073709551615 ∷ 18446744073709551615 ∷ 18446744073709551615 ∷ [] }) t ≡ true
all-has t small = (has-at (λ k. 18446744073709551615) t small).1 (bit_at_ones 64 (t % 64) (omega arith))
