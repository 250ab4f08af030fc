-- Answers in the proof of `ClosedPlan::replace`.
use Rattle.std.proofs.Common.{◌^◌}
use Rattle.psi_closed.proofs.plan.ClosedPlan.replace.Goals as goal

pub invariant_of-self : goal.invariant_of-self
invariant_of-self g c =
    let kept = c.self.invariant in
    record {
      valid = kept.valid;
      fits = kept.fits;
      moves = kept.moves;
      same_count = kept.same_count;
      most = kept.most;
      kept = c.clear.ensures c.self.inside.wheel.now (g.P.Past.words c.args.past) (g.P.Past.words c.self.inside.past) (2 ^ c.self.inside.limit) kept.kept;
    }
