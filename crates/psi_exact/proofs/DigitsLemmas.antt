-- The rank of a state as a number whose digits are the state's numbers.
use Rattle.std.specs.Prelude.{◌≡◌, ℕ, zero, suc, ◌+◌, ◌-◌, ◌*◌, ◌<◌, ◌≤◌, List, [], ◌∷◌, length, slice_index, slice_set, drop, refl}
use Rattle.std.proofs.Common.{ap, sym, ◌∙◌, arith}
use Rattle.std.proofs.Math.Nat.{suc-mul, zero-mul, mul_assoc, mul-le-mul_right}
use Rattle.std.proofs.lemmas.Grind.{common_steps}
use Rattle.psi_state.specs.State.{IsBelow, zeros, all_states}
use Rattle.psi_state.specs.Volume.{volume, place_in}
use Rattle.psi_state.proofs.BoxesLemmas.{below-head, below-tail, zeros-below}
use Rattle.psi_state.proofs.VolumeLemmas.{length-box, slice_get-box}
use Rattle.psi_exact.specs.Ranks.{rank_of}
use Rattle.psi_exact.proofs.PlacesLemmas.{is_rank-from_get}

-- the number of states of these capacities
abbrev pub size : List ℕ → ℕ
size [] = 1
size (c ∷ cs) = suc c * size cs

-- the number of the digits of a state
abbrev pub number : List ℕ → List ℕ → ℕ
number [] x = 0
number (c ∷ cs) [] = 0
number (c ∷ cs) (v ∷ x) = v * size cs + number cs x

size-volume : (caps : List ℕ) → volume (zeros caps) caps ≡ size caps
size-volume [] = refl
size-volume (c ∷ cs) =
    let whole : suc c - 0 ≡ suc c = omega arith in
    ap (λ n. n * volume (zeros cs) cs) whole ∙ ap (λ n. suc c * n) (size-volume cs)

-- as many as are listed
pub size-all : (caps : List ℕ) → length (all_states caps) ≡ size caps
size-all caps = length-box (zeros caps) caps ∙ size-volume caps

number-place : (caps x : List ℕ) → place_in (zeros caps) caps x ≡ number caps x
number-place [] x = refl
number-place (c ∷ cs) [] = refl
number-place (c ∷ cs) (v ∷ x) = grind (arith, common_steps, size-volume, (number-place cs x))

-- the number of the digits is the rank
pub rank-number : (caps x : List ℕ) → IsBelow x caps → rank_of caps x ≡ number caps x
rank-number caps x within =
    let get = slice_get-box (zeros caps) caps x (record { low = zeros-below caps x within.same_length; high = within }) in
    sym ((is_rank-from_get caps x (place_in (zeros caps) caps x) get).rank) ∙ number-place caps x

pub size-some : (caps : List ℕ) → 1 ≤ size caps
size-some [] = omega arith
size-some (c ∷ cs) = (let rest = size-some cs in omega (arith, suc-mul c (size cs)))

pub number-small : (caps x : List ℕ) → IsBelow x caps → number caps x < size caps
number-small [] x within = omega arith
number-small (c ∷ cs) [] within = absurd (let e : 0 ≡ suc (length cs) = within.same_length in omega arith)
number-small (c ∷ cs) (v ∷ x) within =
    let first : v ≤ c = below-head v x c cs within in
    let rest = number-small cs x (below-tail v x c cs within) in
    let most : v * size cs ≤ c * size cs = mul-le-mul_right (size cs) first in
    omega (arith, suc-mul c (size cs))

-- what is left of a state is below what is left of the capacities
pub below-drop : (x caps : List ℕ) (q : ℕ) → IsBelow x caps → IsBelow (drop q x) (drop q caps)
below-drop x caps zero within = within
below-drop [] [] (suc q) within = within
below-drop [] (c ∷ cs) (suc q) within = absurd (let e : 0 ≡ suc (length cs) = within.same_length in omega arith)
below-drop (v ∷ x) [] (suc q) within = absurd (let e : suc (length x) ≡ 0 = within.same_length in omega arith)
below-drop (v ∷ x) (c ∷ cs) (suc q) within = below-drop x cs q (below-tail v x c cs within)

pub size-drop : (caps : List ℕ) (q : ℕ) → q < length caps → size (drop q caps) ≡ suc (slice_index caps q) * size (drop (suc q) caps)
size-drop [] q small = absurd (omega arith)
size-drop (c ∷ cs) zero small = refl
size-drop (c ∷ cs) (suc q) small = size-drop cs q (omega arith)

-- one digit more of what is left
pub number-drop : (caps x : List ℕ) (q : ℕ) → length x ≡ length caps → q < length caps
    → number (drop q caps) (drop q x) ≡ slice_index x q * size (drop (suc q) caps) + number (drop (suc q) caps) (drop (suc q) x)
number-drop [] x q same small = absurd (omega arith)
number-drop (c ∷ cs) [] q same small = absurd (omega arith)
number-drop (c ∷ cs) (v ∷ x) zero same small = refl
number-drop (c ∷ cs) (v ∷ x) (suc q) same small = number-drop cs x q (omega arith) (omega arith)

-- where the digits of two states add up to those of two others, the numbers do
pub number-add : (caps x y z w : List ℕ) → length x ≡ length caps → length y ≡ length caps → length z ≡ length caps → length w ≡ length caps
    → ((q : ℕ) → q < length caps → slice_index x q + slice_index y q ≡ slice_index z q + slice_index w q)
    → number caps x + number caps y ≡ number caps z + number caps w
number-add [] x y z w a b c d each = refl
number-add (k ∷ ks) [] y z w a b c d each = absurd (omega arith)
number-add (k ∷ ks) (x ∷ xs) [] z w a b c d each = absurd (omega arith)
number-add (k ∷ ks) (x ∷ xs) (y ∷ ys) [] w a b c d each = absurd (omega arith)
number-add (k ∷ ks) (x ∷ xs) (y ∷ ys) (z ∷ zs) [] a b c d each = absurd (omega arith)
number-add (k ∷ ks) (x ∷ xs) (y ∷ ys) (z ∷ zs) (w ∷ ws) a b c d each =
    let rest = number-add ks xs ys zs ws (omega arith) (omega arith) (omega arith) (omega arith) (λ q small. each (suc q) (omega arith)) in
    let first : x + y ≡ z + w = each 0 (omega arith) in
    let joined : (x + y) * size ks ≡ (z + w) * size ks = ap (λ n. n * size ks) first in
    omega arith

-- the first numbers of a state, so many, and none after them
abbrev pub cut : ℕ → List ℕ → List ℕ
cut q [] = []
cut zero (v ∷ x) = 0 ∷ cut zero x
cut (suc q) (v ∷ x) = v ∷ cut q x

pub length-cut : (q : ℕ) (x : List ℕ) → length (cut q x) ≡ length x
length-cut q [] = refl
length-cut zero (v ∷ x) = ap suc (length-cut zero x)
length-cut (suc q) (v ∷ x) = ap suc (length-cut q x)

pub cut-first : (q : ℕ) (x : List ℕ) (i : ℕ) → i < q → slice_index (cut q x) i ≡ slice_index x i
cut-first q [] i small = refl
cut-first zero (v ∷ x) i small = absurd (omega arith)
cut-first (suc q) (v ∷ x) zero small = refl
cut-first (suc q) (v ∷ x) (suc i) small = cut-first q x i (omega arith)

pub cut-behind : (q : ℕ) (x : List ℕ) (i : ℕ) → q ≤ i → slice_index (cut q x) i ≡ 0
cut-behind q [] i past = refl
cut-behind zero (v ∷ x) zero past = refl
cut-behind zero (v ∷ x) (suc i) past = cut-behind zero x i (omega arith)
cut-behind (suc q) (v ∷ x) zero past = absurd (omega arith)
cut-behind (suc q) (v ∷ x) (suc i) past = cut-behind q x i (omega arith)

-- all states go in steps of what is left
pub size-steps : (cs : List ℕ) (q : ℕ) → (n : ℕ) × (size cs ≡ n * size (drop q cs))
size-steps cs zero = (1, omega arith)
size-steps [] (suc q) = (1, refl)
size-steps (c ∷ cs) (suc q) =
    let rest = size-steps cs q in
    (suc c * rest.0, ap (λ n. suc c * n) rest.1 ∙ sym (mul_assoc (suc c) rest.0 (size (drop q cs))))

-- which are no more
pub size-most : (cs : List ℕ) (q : ℕ) → size (drop q cs) ≤ size cs
size-most cs zero = omega arith
size-most [] (suc q) = omega arith
size-most (c ∷ cs) (suc q) = (let rest = size-most cs q in omega (arith, suc-mul c (size cs)))

number-none : (caps x : List ℕ) → number caps (cut zero x) ≡ 0
number-none [] x = refl
number-none (c ∷ cs) [] = refl
number-none (c ∷ cs) (v ∷ x) = (let rest = number-none cs x in omega (arith, zero-mul (size cs)))

-- a number is that of its first digits, which goes in steps of what is left, and of what is left
pub record IsParted (caps x : List ℕ) (q : ℕ) : Type 0 where
  pub steps : ℕ
  pub first : number caps (cut q x) ≡ steps * size (drop q caps)
  pub whole : number caps x ≡ steps * size (drop q caps) + number (drop q caps) (drop q x)

pub parted : (caps x : List ℕ) (q : ℕ) → length x ≡ length caps → q ≤ length caps → IsParted caps x q
parted caps x zero same small = grind (arith, common_steps, number-none, zero-mul)
parted [] x (suc q) same small = absurd (omega arith)
parted (c ∷ cs) [] (suc q) same small = absurd (omega arith)
parted (c ∷ cs) (v ∷ x) (suc q) same small =
    let rest = parted cs x q (omega arith) (omega arith) in
    let some = size-steps cs q in
    let width : size cs ≡ some.0 * size (drop q cs) = some.1 in
    let high : v * size cs ≡ v * some.0 * size (drop q cs) = ap (λ n. v * n) width ∙ sym (mul_assoc v some.0 (size (drop q cs))) in
    let first = rest.first in
    let whole = rest.whole in
    record {
      steps = v * some.0 + rest.steps;
      first = omega arith;
      whole = omega arith;
    }

-- a digit that is taken away lowers the number by its steps
pub number-set : (caps x : List ℕ) (q : ℕ) → length x ≡ length caps → q < length caps
    → number caps x ≡ number caps (slice_set x q 0) + slice_index x q * size (drop (suc q) caps)
number-set [] x q same small = absurd (omega arith)
number-set (c ∷ cs) [] q same small = absurd (omega arith)
number-set (c ∷ cs) (v ∷ x) zero same small = (let none = zero-mul (size cs) in omega arith)
number-set (c ∷ cs) (v ∷ x) (suc q) same small = (let rest = number-set cs x q (omega arith) (omega arith) in omega arith)
