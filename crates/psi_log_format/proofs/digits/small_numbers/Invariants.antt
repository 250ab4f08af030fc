-- Invariants of the loops of `small_numbers`.
use Rattle.std.specs.Prelude.{◌≡◌, ◌≤◌, vec_len, vec_capacity}
use Rattle.psi_log_format.specs.Inner.TableKept.{AreDigits}
use Rattle.psi_log_format.proofs.digits.small_numbers.Given as goal

abbrev pub invariant-loop-n : goal.invariant-loop-n
invariant-loop-n l = record {
  count : vec_len l.table ≡ l.n;
  room : 1000 ≤ vec_capacity l.table;
  digits : AreDigits l.table.items;
}
