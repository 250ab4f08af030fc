-- Invariants of the loops of `Wheel::new`.
use Rattle.std.proofs.Common.{◌≡◌, ◌≤◌, length, take, vec_len, vec_capacity}
use Rattle.psi_rate.specs.Rates.{total}
use Rattle.psi_rate.specs.Inner.TotalsKept.{totals_from}
use Rattle.psi_rate.proofs.wheel.Wheel.new.Given as goal

abbrev pub invariant-loop-at : goal.invariant-loop-at
invariant-loop-at l = record {
  items : l.totals.items ≡ totals_from 0 (take l.at l.rates);
  len : vec_len l.totals ≡ l.at;
  room : length l.rates ≤ vec_capacity l.totals;
  whole : l.sum ≡ total (take l.at l.rates);
  bounded : l.sum ≤ 16777216;
}
