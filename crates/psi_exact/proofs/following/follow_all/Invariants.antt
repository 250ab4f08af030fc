-- Invariants of the loops of `follow_all`.
use Rattle.std.proofs.Common.{◌≡◌, ◌/◌, ◌^◌}
use Rattle.psi_rate.specs.Composition.{system_functions}
use Rattle.psi_exact.specs.Inner.RankTableKept.{IsFollowed}
use Rattle.psi_exact.specs.Sizes.{sizes_before}
use Rattle.psi_exact.proofs.following.follow_all.Given as goal

-- the table has the map of the power of two before this one, and the sizes up to it are known
abbrev pub invariant-loop-exponent : goal.invariant-loop-exponent
invariant-loop-exponent g l = record {
  followed : IsFollowed (system_functions g.E.EventLaw.function l.learned.system.now (g.P.Past.words l.past)) l.learned.system.now.caps (2 ^ l.exponent / 2) l.table l.found;
  sizes : l.sizes ≡ sizes_before (system_functions g.E.EventLaw.function l.learned.system.now (g.P.Past.words l.fn.past)) l.learned.system.now.caps l.exponent;
  words : g.P.Past.words l.past ≡ g.P.Past.words l.fn.past;
}
