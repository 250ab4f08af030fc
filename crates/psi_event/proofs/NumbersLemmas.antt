-- Lemmas. Runs over the numbers of events, from the last number on.
use Rattle.std.specs.Prelude.{◌≡◌, ℕ, suc, ◌-◌, ◌<◌, ◌≤◌, List, [], ◌∷◌, ◌++◌, length, slice_index, slice_index_or, refl}
use Rattle.std.proofs.Common.{ap, take, drop, drop-cons, arith}
use Rattle.std.proofs.lemmas.List.{get_or-take, length-take-le}
use Rattle.std.proofs.Math.Seq.{take-suc}
use Rattle.psi_event.specs.Law.{Function}
use Rattle.psi_event.specs.Numbers.{follow_numbers, AreEvents}

pub follow_numbers-append : (functions : List Function) (xs ys x : List ℕ)
    → follow_numbers functions (xs ++ ys) x ≡ follow_numbers functions xs (follow_numbers functions ys x)
follow_numbers-append functions [] ys x = refl
follow_numbers-append functions (n ∷ xs) ys x = rw (follow_numbers-append functions xs ys x)

-- one number more is one step more
pub follow_numbers-drop : (functions : List Function) (numbers : List ℕ) (i : ℕ) (x : List ℕ) → 1 ≤ i → i ≤ length numbers
    → follow_numbers functions (drop (i - 1) numbers) x
    ≡ slice_index_or functions (slice_index numbers (i - 1)) (λ z. z) (follow_numbers functions (drop i numbers) x)
follow_numbers-drop functions numbers i x some within =
    let e : suc (i - 1) ≡ i = omega arith in
    rw (drop-cons numbers (i - 1) 0 (omega arith)) (ap (λ n. slice_index_or functions (slice_index numbers (i - 1)) (λ z. z) (follow_numbers functions (drop n numbers) x)) e)

-- the step of one number takes it off the end
pub follow_numbers-take : (functions : List Function) (numbers : List ℕ) (i : ℕ) (x y end : List ℕ) → 1 ≤ i → i ≤ length numbers
    → y ≡ slice_index_or functions (slice_index numbers (i - 1)) (λ z. z) x → follow_numbers functions (take i numbers) x ≡ end
    → follow_numbers functions (take (i - 1) numbers) y ≡ end
follow_numbers-take functions numbers i x y end some within stepped is =
    let e : suc (i - 1) ≡ i = omega arith in
    rw stepped (rw (← e, take-suc numbers (i - 1) 0 (omega arith), follow_numbers-append) at is)

-- the numbers that are left are events' numbers too
pub events-left : (count more left : ℕ) (numbers : List ℕ) → AreEvents count numbers → left ≤ length numbers → count ≡ more
    → (i : ℕ) → i < length (take left numbers) → slice_index (take left numbers) i < more
events-left count more left numbers are within same i small =
    let long : length (take left numbers) ≡ left = length-take-le left numbers within in
    let read : slice_index (take left numbers) i ≡ slice_index numbers i = get_or-take left numbers i 0 (omega arith) in
    let own = are.each i (omega arith) in
    omega arith
