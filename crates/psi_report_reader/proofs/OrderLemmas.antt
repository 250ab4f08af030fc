-- Two numbers, of which one is lower or which are the same.
use Rattle.std.specs.Prelude.{◌≡◌, ℕ, ◌<◌}
use Rattle.std.proofs.Common.{inl, inr}
use Rattle.std.proofs.lemmas.Bool.{cases_order}

pub by_order : {P : Type 0} (m n : ℕ) → (m ≡ n → P) → (m < n → P) → (n < m → P) → P
by_order m n same less more = elim (cases_order m n) [ inl is ↦ same is | inr apart ↦ elim apart [ inl is ↦ less is | inr is ↦ more is ] ]
