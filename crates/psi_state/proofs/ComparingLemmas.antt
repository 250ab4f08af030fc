-- States of as many queues are compared place by place, past the last queue too.
use Rattle.std.specs.Prelude.{◌≡◌, ℕ, ◌+◌, ◌-◌, ◌*◌, ◌%◌, ◌^◌, ◌<◌, ◌≤◌, ◌↔◌, ◌&&◌, ◌||◌, not, if◌then◌else◌, Bool, true, false, IsTrue, List, length, take, drop, replicate, slice_index, bit_or, nat_eq, refl}
use Rattle.std.specs.Int.{bit_at}
use Rattle.std.specs.Int.Bits.{or_add_and, or_zero_l}
use Rattle.std.proofs.Common.{inl, inr, ap, sym, ◌∙◌, subst, arith, w32}
use Rattle.std.proofs.lemmas.Bool.{cases_eq, cases_lt, eq-eqb, eqb-true, true≢false, false≢true}
use Rattle.std.proofs.lemmas.List.{get_or_past, length-take-le}
use Rattle.std.proofs.lemmas.Nat.{and_le_l, and_le_r}
use Rattle.std.proofs.lemmas.Nat.Bits.{bit_at_set_same, bit_at_set_other}
use Rattle.psi_state.specs.State.{IsBelow}
use Rattle.psi_state.proofs.ArraysLemmas.{slice_index-padded}

or-none : (a b : ℕ) → bit_or a b ≡ 0 → (a ≡ 0) × (b ≡ 0)
or-none a b none = omega (arith, or_add_and a b, and_le_l a b, and_le_r a b)

-- one place more is compared
pub below-next : (xs ys : List ℕ) (above over i : ℕ) → over ≡ slice_index xs i - slice_index ys i
    → (above ≡ 0) ↔ ((k : ℕ) → k < i → slice_index xs k ≤ slice_index ys k)
    → (bit_or above over ≡ 0) ↔ ((k : ℕ) → k < i + 1 → slice_index xs k ≤ slice_index ys k)
below-next xs ys above over i is so_far = (
  λ none k small.
      let both = or-none above over none in
      elim (cases_eq k i) [
        | inl e ↦ subst (λ m. slice_index xs m ≤ slice_index ys m) (sym e) (let n = both.1 in omega arith)
        | inr ne ↦ so_far.0 both.0 k (omega arith)
      ],
  λ each.
      let before : above ≡ 0 = so_far.1 (λ k small. each k (omega arith)) in
      let at : slice_index xs i ≤ slice_index ys i = each i (omega arith) in
      ap (λ a. bit_or a over) before ∙ (or_zero_l over ∙ omega arith),
)

-- an array and the list at its front have the same numbers
pub same-padded : (xs x : List ℕ) (n i : ℕ) → n ≤ 32 → length xs ≡ 32 → drop n xs ≡ replicate (32 - n) 0 → take n xs ≡ x → slice_index xs i ≡ slice_index x i
same-padded xs x n i few full rest front = slice_index-padded xs n i few full rest ∙ ap (λ (ys : List ℕ). slice_index ys i) front

-- where no place of two arrays is above, their lists are below one another
pub below-told : (xs ys x y : List ℕ) (n m above i : ℕ) → n ≤ 32 → length xs ≡ 32 → drop n xs ≡ replicate (32 - n) 0 → take n xs ≡ x
    → m ≤ 32 → length ys ≡ 32 → drop m ys ≡ replicate (32 - m) 0 → take m ys ≡ y
    → length x ≡ length y → i ≡ 32 → (above ≡ 0) ↔ ((k : ℕ) → k < i → slice_index xs k ≤ slice_index ys k)
    → IsTrue (nat_eq above 0) ↔ IsBelow x y
below-told xs ys x y n m above i few full rest front small long behind begin same all tells = (
  λ none. record {
    same_length = same;
    each = λ k within.
        let least : length (take n xs) ≡ n = length-take-le n xs (omega arith) in
        let count : length x ≡ n = sym (ap length front) ∙ least in
        omega (arith, tells.0 (eqb-true above 0 none) k (omega arith), same-padded xs x n k few full rest front, same-padded ys y m k small long behind begin);
  },
  λ below. eq-eqb above 0 (tells.1 (λ k within. elim (cases_lt k (length x)) [
    | inl before ↦ omega (arith, below.each k before, same-padded xs x n k few full rest front, same-padded ys y m k small long behind begin)
    | inr past ↦ omega (arith, get_or_past x k 0 past, same-padded xs x n k few full rest front)
  ])),
)

-- of two facts not both hold where one fails, and both where none does
pub not-both : (a b : Bool) → (not a || not b) ≡ true → (a && b) ≡ false
not-both false b some = refl
not-both true false some = refl
not-both true true some = absurd (false≢true some)

pub both-hold : (a b : Bool) → (not a || not b) ≡ false → (a && b) ≡ true
both-hold false b none = absurd (true≢false none)
both-hold true false none = absurd (true≢false none)
both-hold true true none = refl

-- the bits before a place tell where two places are the same, and none is set from there on: one place more is told
module _ (p : ℕ → Bool) (n i : ℕ) (small : i < 32) (told : (k : ℕ) → k < i → bit_at n k ≡ (if p k then 0 else 1)) (rest : (k : ℕ) → i ≤ k → bit_at n k ≡ 0) where
  pub set-told : p i ≡ false → (k : ℕ) → k < i + 1 → bit_at (bit_or n (1 * 2 ^ i % 4294967296)) k ≡ (if p k then 0 else 1)
  set-told apart k within = elim (cases_eq k i) [
    | inl e ↦ subst (λ m. bit_at (bit_or n (1 * 2 ^ i % 4294967296)) m ≡ (if p m then 0 else 1)) (sym e) (bit_at_set_same w32 n i small ∙ sym (ap (λ b. if b then 0 else 1) apart))
    | inr ne ↦ bit_at_set_other w32 n i small k ne ∙ told k (omega arith)
  ]

  pub set-rest : (k : ℕ) → i + 1 ≤ k → bit_at (bit_or n (1 * 2 ^ i % 4294967296)) k ≡ 0
  set-rest k above = bit_at_set_other w32 n i small k (λ e. omega arith) ∙ rest k (omega arith)

  pub same-told : p i ≡ true → (k : ℕ) → k < i + 1 → bit_at n k ≡ (if p k then 0 else 1)
  same-told same k within = elim (cases_eq k i) [
    | inl e ↦ subst (λ m. bit_at n m ≡ (if p m then 0 else 1)) (sym e) (rest i (omega arith) ∙ sym (ap (λ b. if b then 0 else 1) same))
    | inr ne ↦ told k (omega arith)
  ]
