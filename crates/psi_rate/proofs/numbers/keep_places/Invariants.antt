-- Invariants of the loops of `keep_places`.
use Rattle.std.proofs.Common.{◌≡◌, ◌≤◌, ◌-◌, vec_capacity}
use Rattle.psi_rate.specs.Numbers.{numbers_below}
use Rattle.psi_rate.proofs.numbers.keep_places.Given as goal

-- the numbers of the places before this one are kept
abbrev pub invariant-loop-place : goal.invariant-loop-place
invariant-loop-place g l = record {
  most : l.place ≤ l.end;
  kept : l.list.items ≡ numbers_below l.wheel (g.P.Past.words l.fn.past) l.place;
  capacity : vec_capacity l.fn.list ≤ vec_capacity l.list;
  words : g.P.Past.words l.past ≡ g.P.Past.words l.fn.past;
}

-- fewer places are left
abbrev pub decreases-loop-place : goal.decreases-loop-place
decreases-loop-place g l = l.end - l.place
