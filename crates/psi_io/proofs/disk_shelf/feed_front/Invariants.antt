-- Invariants of the loops of `feed_front`.
use Rattle.std.proofs.Common.{◌≡◌, ◌≤◌, ◌-◌}
use Rattle.psi_io.proofs.FeedingLemmas.{Fed}
use Rattle.psi_io.proofs.disk_shelf.feed_front.Given as goal

abbrev pub invariant-loop-given : goal.invariant-loop-given
invariant-loop-given g l = record {
  within : l.given ≤ l.limit;
  setting : g.C.Consumer.setting l.to ≡ g.C.Consumer.setting l.initial.to;
  fed : Fed l.noted.bytes (g.C.Consumer.taken l.initial.to) (g.C.Consumer.taken l.to) l.given (g.F.Read.remaining l.initial.file) (g.F.Read.remaining l.file);
}

abbrev pub decreases-loop-given : goal.decreases-loop-given
decreases-loop-given g l = l.limit - l.given
