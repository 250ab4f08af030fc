-- Looking through a list, as a loop does.
use Rattle.std.proofs.Common.{◌≡◌, ℕ, zero, suc, ◌+◌, ◌<◌, ◌≤◌, List, [], ◌∷◌, length, slice_index, drop, Bool, true, false, nat_lt, refl, arith}
use Rattle.std.specs.List.{list_all}
use Rattle.std.proofs.lemmas.Bool.{and_parts, ltb-true}
use Rattle.std.proofs.lemmas.List.{drop_more}
use Rattle.std.proofs.Math.ListN.{drop_of_length-le}
use Rattle.psi_net_document.specs.Targets.{are_below}

-- a test of numbers that all have to pass: one that does takes the loop one step on, another ends it, and after the last place none fails
pub all_turn : (p : ℕ → Bool) (xs : List ℕ) (i : ℕ) → i < length xs → p (slice_index xs i) ≡ true → list_all p (drop i xs) ≡ list_all p (drop (i + 1) xs)
all_turn p xs i small passes = rw (drop_more xs i 0 small, passes) refl

pub all_found : (p : ℕ → Bool) (xs : List ℕ) (i : ℕ) → i < length xs → p (slice_index xs i) ≡ false → list_all p (drop i xs) ≡ false
all_found p xs i small fails = rw (drop_more xs i 0 small, fails) refl

pub all_ends : (p : ℕ → Bool) (xs : List ℕ) (i : ℕ) → length xs ≤ i → list_all p (drop i xs) ≡ true
all_ends p xs i past = rw (drop_of_length-le xs past) refl

-- each place of numbers below n has one
pub below_at : (n : ℕ) (xs : List ℕ) (i : ℕ) → are_below n xs ≡ true → i < length xs → slice_index xs i < n
below_at n [] i below small = absurd (omega arith)
below_at n (x ∷ xs) zero below small = ltb-true x n (and_parts (nat_lt x n) (list_all (λ y. nat_lt y n) xs) below).0
below_at n (x ∷ xs) (suc i) below small = below_at n xs i (and_parts (nat_lt x n) (list_all (λ y. nat_lt y n) xs) below).1 (omega arith)
