-- Invariants of the loops of `region_ending`.
use Rattle.std.proofs.Common.{◌≡◌, map, take}
use Rattle.psi_region.specs.Region.{start, IsArea}
use Rattle.psi_region.specs.Followed.{follow_areas}
use Rattle.psi_region.proofs.regions.region_ending.Given as goal

-- the numbers that are left make of the region what all numbers make of all states
abbrev pub invariant-loop-place : goal.invariant-loop-place
invariant-loop-place g l = record {
  area : IsArea l.course.caps l.region.area;
  left : follow_areas l.course.split (map g.E.EventLaw.function l.course.events) (take l.place l.numbers) l.region.area
      ≡ follow_areas l.course.split (map g.E.EventLaw.function l.course.events) l.numbers (start l.course.caps);
  split : l.region.split ≡ l.course.split;
}
