-- Invariants of the loops of `follow`.
use Rattle.std.proofs.Common.{◌≡◌, ◌≤◌}
use Rattle.psi_rate.specs.Composition.{system_functions}
use Rattle.psi_exact.specs.Inner.RankTableKept.{IsFollowed}
use Rattle.psi_exact.proofs.following.follow.Given as goal

-- the table has the map of the last steps up to the place, and the least horizon up to there is known
abbrev pub invariant-loop-place : goal.invariant-loop-place
invariant-loop-place g l = record {
  within : l.place ≤ l.to;
  followed : IsFollowed (system_functions g.E.EventLaw.function l.learned.system.now (g.P.Past.words l.past)) l.learned.system.now.caps l.place l.table l.least;
  words : g.P.Past.words l.past ≡ g.P.Past.words l.fn.past;
}
