-- Answers in the proof of `fill`.
use Rattle.std.proofs.Common.{◌∙◌}
use Rattle.psi_region.proofs.StepsLemmas.{filled-next}
use Rattle.psi_region.proofs.region.fill.Goals as goal

pub loop-x-preserved : goal.loop-x-preserved
loop-x-preserved c =
    let bounds = c.args.bounds.now in
    record {
      states = filled-next bounds.lo bounds.hi c.loop-x.pool.states c.in-Some.x c.loop-x.x-iterator c.next.new.self c.add.new.self.states
          c.loop-x.invariant.states c.in-Some.ensures.steps c.add.ensures.states;
      most = c.add.ensures.most ∙ c.loop-x.invariant.most;
    }
