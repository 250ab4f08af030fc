-- The lexicographic order of states of as many queues, by their quads.
use Rattle.std.specs.Prelude.{◌≡◌, ℕ, zero, suc, ◌+◌, ◌*◌, ◌/◌, ◌%◌, ◌<◌, List, [], ◌∷◌, length, slice_index, refl}
use Rattle.std.specs.Cmp.{nat_cmp_is}
use Rattle.std.specs.Cmp.Lexicographic.{slice_cmp}
use Rattle.std.specs.Ordering.{nat_cmp, ordering_then}
use Rattle.std.specs.declared.cmp.Ordering.{Ordering}
use Rattle.std.specs.declared.cmp.Ordering.TheVariants.{Equal}
use Rattle.std.proofs.Common.{inl, inr, ap, sym, ◌∙◌, arith}
use Rattle.std.proofs.lemmas.Bool.{cases_lt}
use Rattle.std.proofs.lemmas.Grind.{common_steps}
use Rattle.std.proofs.lemmas.List.{get_or_past}
use Rattle.psi_state.specs.Hashing.{quad, number_in}
use Rattle.psi_state.proofs.QuadsLemmas.{number-quad, each-from_quad}

-- the first place at which two lists differ tells their order
one_differs : (x y : ℕ) (o : Ordering) → (x ≡ y → ⊥) → ordering_then (nat_cmp x y) o ≡ nat_cmp x y
one_differs x y o differ = grind (arith, common_steps)

cmp-apart : (xs ys : List ℕ) (i : ℕ) → ((k : ℕ) → k < i → slice_index xs k ≡ slice_index ys k) → i < length xs → i < length ys
    → (slice_index xs i ≡ slice_index ys i → ⊥) → slice_cmp nat_cmp xs ys ≡ nat_cmp (slice_index xs i) (slice_index ys i)
cmp-apart [] ys i same left right differ = absurd (omega arith)
cmp-apart (x ∷ xs) [] i same left right differ = absurd (omega arith)
cmp-apart (x ∷ xs) (y ∷ ys) zero same left right differ = one_differs x y (slice_cmp nat_cmp xs ys) differ
cmp-apart (x ∷ xs) (y ∷ ys) (suc i) same left right differ =
    let tied : Equal ≡ nat_cmp x y = nat_cmp_is x y Equal (same 0 (omega arith)) in
    rw (← tied) (cmp-apart xs ys i (λ k before. same (suc k) (omega arith)) (omega arith) (omega arith) differ)

-- lists that are the same are equal in it
pub cmp-same : (xs ys : List ℕ) → xs ≡ ys → slice_cmp nat_cmp xs ys ≡ Equal
cmp-same [] [] same = refl
cmp-same [] (y ∷ ys) same = absurd cc
cmp-same (x ∷ xs) [] same = absurd cc
cmp-same (x ∷ xs) (y ∷ ys) same =
    let tied : Equal ≡ nat_cmp x y = nat_cmp_is x y Equal cc in
    rw (← tied) (cmp-same xs ys cc)

module _ (x y : List ℕ) (i place a b : ℕ) (own : (k : ℕ) → slice_index x k < 65536) (others : (k : ℕ) → slice_index y k < 65536) (long : length x ≡ length y)
    (before : (k : ℕ) → k < i → quad x k ≡ quad y k) (a_is : a ≡ quad x i) (b_is : b ≡ quad y i) (small : place < 4)
    (same : (k : ℕ) → k < place → number_in a k ≡ number_in b k) (apart : number_in a place ≡ number_in b place → ⊥) where
  -- the numbers of the two quads are those of the lists
  first : (j k : ℕ) → 4 * i + j ≡ k → j < 4 → number_in a j ≡ slice_index x k
  first j k at few = ap (λ q. number_in q j) a_is ∙ number-quad x i own j k at few

  second : (j k : ℕ) → 4 * i + j ≡ k → j < 4 → number_in b j ≡ slice_index y k
  second j k at few = ap (λ q. number_in q j) b_is ∙ number-quad y i others j k at few

  same-until : (k : ℕ) → k < 4 * i + place → slice_index x k ≡ slice_index y k
  same-until k earlier =
      elim (cases_lt (k / 4) i) [
        | inl less ↦ each-from_quad x y (k / 4) own others (before (k / 4) less) k (k % 4) (omega arith) (omega arith)
        | inr last ↦ sym (first (k % 4) k (omega arith) (omega arith)) ∙ (same (k % 4) (omega arith) ∙ second (k % 4) k (omega arith) (omega arith))
      ]

  differ : slice_index x (4 * i + place) ≡ slice_index y (4 * i + place) → ⊥
  differ equal = apart (first place (4 * i + place) refl small ∙ (equal ∙ sym (second place (4 * i + place) refl small)))

  within : 4 * i + place < length x
  within =
      elim (cases_lt (4 * i + place) (length x)) [
        | inl less ↦ less
        | inr past ↦ absurd (differ (get_or_past x (4 * i + place) 0 past ∙ sym (get_or_past y (4 * i + place) 0 (omega arith))))
      ]

  -- the first numbers that differ tell the order
  pub cmp-from_quads : nat_cmp (number_in a place) (number_in b place) ≡ slice_cmp nat_cmp x y
  cmp-from_quads =
      rw (first place (4 * i + place) refl small, second place (4 * i + place) refl small)
      (sym (cmp-apart x y (4 * i + place) same-until within (let w = within in omega arith) differ))
