-- Invariants of the loops of `count_places`.
use Rattle.std.proofs.Common.{◌≡◌, ◌≤◌, ◌-◌, length}
use Rattle.psi_rate.specs.Numbers.{numbers_below}
use Rattle.psi_rate.proofs.numbers.count_places.Given as goal

-- the numbers of the places before this one are counted
abbrev pub invariant-loop-place : goal.invariant-loop-place
invariant-loop-place g l = record {
  most : l.place ≤ l.end;
  counted : l.count ≡ length (numbers_below l.wheel (g.P.Past.words l.fn.past) l.place);
  words : g.P.Past.words l.past ≡ g.P.Past.words l.fn.past;
}

-- fewer places are left
abbrev pub decreases-loop-place : goal.decreases-loop-place
decreases-loop-place g l = l.end - l.place
