-- Sums and counts over the lists of k pasts: one past for each of k streams.
use Rattle.std.specs.Prelude.{ℕ, zero, suc, ◌*◌, ◌^◌, ◌≤◌, List, [], ◌∷◌, Bool, if◌then◌else◌}
use Rattle.psi_law.specs.Counting.{Words, sum_pasts}
use Rattle.psi_law.specs.Wheel.{word_count}

-- the sum of g over the lists of k pasts of n words, each word below a bound
abbrev pub sum_lists : ℕ → ℕ → ℕ → (List Words → ℕ) → ℕ
sum_lists bound n zero g = g []
sum_lists bound n (suc k) g = sum_pasts bound n (λ past. sum_lists bound n k (λ pasts. g (past ∷ pasts)))

-- how many lists of k pasts of n words, each word below a bound, have a property
abbrev pub count_lists : ℕ → ℕ → ℕ → (List Words → Bool) → ℕ
count_lists bound n k has = sum_lists bound n k (λ pasts. if has pasts then 1 else 0)

-- of all lists of k pasts of n words, at most m in d have a property
abbrev pub AtMost : (m d n k : ℕ) → (List Words → Bool) → Type 0
AtMost m d n k has = count_lists word_count n k has * d ≤ m * word_count ^ (n * k)
