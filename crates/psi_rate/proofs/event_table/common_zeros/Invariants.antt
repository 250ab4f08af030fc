-- Invariants of the loops of `common_zeros`.
use Rattle.std.proofs.Common.{◌≡◌, ℕ, ◌%◌, ◌^◌, ◌<◌, ◌≤◌, get_or}
use Rattle.psi_rate.proofs.event_table.common_zeros.Given as goal

abbrev pub invariant-loop-total : goal.invariant-loop-total
invariant-loop-total l = record {
  some : 1 ≤ l.bits;
  modulus : (k : ℕ) → l.bits % 2 ^ k ≡ 0 → l.modulus % 2 ^ k ≡ 0;
  totals : (k : ℕ) → l.bits % 2 ^ k ≡ 0 → (i : ℕ) → i < l.total-index → get_or l.totals i 0 % 2 ^ k ≡ 0;
}
