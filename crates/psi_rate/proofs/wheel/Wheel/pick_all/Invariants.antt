-- Invariants of the loops of `Wheel::pick_all`.
use Rattle.std.proofs.Common.{◌≡◌, ◌≤◌, length, take}
use Rattle.std.specs.Prelude.{slice_index}
use Rattle.psi_rate.specs.Numbers.{numbers_below}
use Rattle.psi_rate.proofs.wheel.Wheel.pick_all.Given as goal

-- the numbers of the words before this one are written
abbrev pub invariant-loop-place : goal.invariant-loop-place
invariant-loop-place l = record {
  numbers : take l.count l.numbers ≡ numbers_below l.self (slice_index l.words) l.place;
  few : l.count ≤ l.place;
  same_length : length l.numbers ≡ length l.fn.numbers;
}
