-- States of as many queues are one where their quads are.
use Rattle.std.specs.Prelude.{◌≡◌, ℕ, zero, suc, ◌+◌, ◌*◌, ◌/◌, ◌%◌, ◌<◌, ◌≤◌, ◌↔◌, Bool, IsTrue, List, length, slice_index, nat_eq}
use Rattle.std.specs.Cmp.Lexicographic.{pointwise, bytes_decides}
use Rattle.std.proofs.Common.{inl, inr, ap, sym, ◌∙◌, subst, arith}
use Rattle.std.proofs.lemmas.Bool.{cases_lt}
use Rattle.std.proofs.lemmas.Bool.Decides.{same_from_decides}
use Rattle.std.proofs.lemmas.Grind.{same_number_lists}
use Rattle.psi_state.specs.State.{IsVector}
use Rattle.psi_state.specs.Hashing.{quad, number_in}

-- the numbers of a quad are the list's
pub number-quad : (x : List ℕ) (i : ℕ) → ((k : ℕ) → slice_index x k < 65536) → (place k : ℕ) → 4 * i + place ≡ k → place < 4 → number_in (quad x i) place ≡ slice_index x k
number-quad x i each zero k at small =
    subst (λ m. number_in (quad x i) 0 ≡ slice_index x m) (let e : 4 * i ≡ k = omega arith in e) (omega (arith, each (4 * i)))
number-quad x i each (suc zero) k at small =
    subst (λ m. number_in (quad x i) 1 ≡ slice_index x m) at (omega (arith, each (4 * i), each (4 * i + 1)))
number-quad x i each (suc (suc zero)) k at small =
    subst (λ m. number_in (quad x i) 2 ≡ slice_index x m) at (omega (arith, each (4 * i), each (4 * i + 1), each (4 * i + 2)))
number-quad x i each (suc (suc (suc zero))) k at small =
    subst (λ m. number_in (quad x i) 3 ≡ slice_index x m) at (omega (arith, each (4 * i), each (4 * i + 1), each (4 * i + 2), each (4 * i + 3)))
number-quad x i each (suc (suc (suc (suc place)))) k at small = absurd (omega arith)

-- so a quad tells each of its numbers
pub each-from_quad : (x y : List ℕ) (i : ℕ) → ((k : ℕ) → slice_index x k < 65536) → ((k : ℕ) → slice_index y k < 65536) → quad x i ≡ quad y i
    → (k j : ℕ) → 4 * i + j ≡ k → j < 4 → slice_index x k ≡ slice_index y k
each-from_quad x y i own others same k j is small =
    sym (number-quad x i own j k is small) ∙ (ap (λ q. number_in q j) same ∙ number-quad y i others j k is small)

pub same-from_quads : (x y : List ℕ) (quads : ℕ) → IsVector x → IsVector y → length x ≡ length y → length x ≤ 4 * quads
    → ((i : ℕ) → i < quads → quad x i ≡ quad y i) → x ≡ y
same-from_quads x y quads own others long few each =
    same_number_lists x y long (λ k within.
    each-from_quad x y (k / 4) own.each others.each (each (k / 4) (omega arith)) k (k % 4) (omega arith) (omega arith))

-- what comparing the quads tells
pub eq-from_quads : (x y : List ℕ) (quads : ℕ) (told : Bool) → IsVector x → IsVector y → length x ≡ length y → length x ≤ 4 * quads
    → IsTrue told ↔ ((i : ℕ) → i < quads → quad x i ≡ quad y i) → told ≡ pointwise nat_eq x y
eq-from_quads x y quads told own others long few is =
    same_from_decides told (pointwise nat_eq x y)
    (λ yes. same-from_quads x y quads own others long few (is.0 yes), λ same. is.1 (λ i small. ap (λ (z : List ℕ). quad z i) same)) (bytes_decides x y)

-- a row is a state's own where its quads and the numbers after them are
pub row-from_quads : (row x : List ℕ) (quads first : ℕ) (told : Bool) → ((k : ℕ) → slice_index row k < 65536) → ((k : ℕ) → slice_index x k < 65536)
    → length row ≡ length x → first ≡ 4 * quads → ((i : ℕ) → i < quads → quad row i ≡ quad x i)
    → IsTrue told ↔ ((i : ℕ) → first ≤ i → i < length x → slice_index row i ≡ slice_index x i) → IsTrue told ↔ (row ≡ x)
row-from_quads row x quads first told own others long begin front rest = (
  λ yes. same_number_lists row x long (λ k within.
      elim (cases_lt k first) [
        | inl before ↦ each-from_quad row x (k / 4) own others (front (k / 4) (omega arith)) k (k % 4) (omega arith) (omega arith)
        | inr behind ↦ rest.0 yes k behind (omega arith)
      ]),
  λ same. rest.1 (λ i behind within. ap (λ (z : List ℕ). slice_index z i) same),
)
