-- Invariants of the loops of `look_up`.
use Rattle.std.proofs.Common.{◌≡◌, ℕ, ◌<◌, ◌≤◌, slice_index}
use Rattle.psi_exact.proofs.ranks.look_up.Given as goal

-- the ranks so far are looked up, and the others are as they were
abbrev pub invariant-loop-rank : goal.invariant-loop-rank
invariant-loop-rank l = record {
  done : (r : ℕ) → r < l.rank-index → slice_index l.ranks r ≡ slice_index l.table (slice_index l.fn.ranks r);
  rest : (r : ℕ) → l.rank-index ≤ r → slice_index l.ranks r ≡ slice_index l.fn.ranks r;
}
