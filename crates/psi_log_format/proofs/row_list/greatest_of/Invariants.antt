-- Invariants of the loops of `row_list::greatest_of`.
use Rattle.std.specs.Prelude.{◌≡◌, ℕ, take, nat_le}
use Rattle.std.specs.List.{list_all}
use Rattle.psi_log_format.proofs.row_list.greatest_of.Given as goal

-- the greatest of the numbers so far
abbrev pub invariant-loop-number : goal.invariant-loop-number
invariant-loop-number l = (most : ℕ) → nat_le l.greatest most ≡ list_all (λ n. nat_le n most) (take l.number-index l.numbers)
