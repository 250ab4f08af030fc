-- Invariants of the loops of `learn`.
use Rattle.std.proofs.Common.{◌≡◌, length, map}
use Rattle.psi_state.specs.State.{all_states}
use Rattle.psi_exact.specs.Inner.ImagesKept.{AreImages, AreLearned}
use Rattle.psi_exact.proofs.following.learn.Given as goal

-- the events so far are known
abbrev pub invariant-loop-number : goal.invariant-loop-number
invariant-loop-number g l = record {
  same : l.table ≡ l.fn.table;
  valid : AreImages (length (all_states l.system.caps)) l.images;
  known : l.images.known ≡ l.number;
  learned : AreLearned l.system.caps (map g.E.EventLaw.function l.system.events) l.images;
}
