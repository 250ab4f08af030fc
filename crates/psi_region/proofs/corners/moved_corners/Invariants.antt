-- Invariants of the loops of `moved_corners`.
use Rattle.std.proofs.Common.{◌≡◌, map, take}
use Rattle.psi_state.specs.State.{IsBelow, zeros}
use Rattle.psi_event.specs.Numbers.{follow_numbers}
use Rattle.psi_region.proofs.corners.moved_corners.Given as goal

-- the numbers that are left make of the two states what all numbers make of the least and the greatest state
abbrev pub invariant-loop-place : goal.invariant-loop-place
invariant-loop-place g l = record {
  least_within : IsBelow l.least l.course.caps;
  greatest_within : IsBelow l.greatest l.course.caps;
  least_left : follow_numbers (map g.E.EventLaw.function l.course.events) (take l.place l.numbers) l.least
      ≡ follow_numbers (map g.E.EventLaw.function l.course.events) l.numbers (zeros l.course.caps);
  greatest_left : follow_numbers (map g.E.EventLaw.function l.course.events) (take l.place l.numbers) l.greatest
      ≡ follow_numbers (map g.E.EventLaw.function l.course.events) l.numbers l.course.caps;
}
