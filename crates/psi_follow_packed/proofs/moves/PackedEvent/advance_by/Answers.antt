use Rattle.std.proofs.Common.{◌<◌}
use Rattle.psi_follow_packed.specs.Views.{low_word, high_word}
use Rattle.psi_follow_packed.proofs.PairingLemmas.{low-at, high-at, pairs-more}
use Rattle.psi_follow_packed.proofs.moves.PackedEvent.advance_by.Goals as goal

pub loop-at-preserved : goal.loop-at-preserved
loop-at-preserved g c =
    let at = c.loop-at.at in
    let pairs = c.loop-at.x.pairs in
    let small : at < g.row.K = c.loop-at-test.true in
    record {
      low = pairs-more low_word c.args.self.now c.args.x.now at _ _ _ pairs c.changed_at.result small c.first_held-first.ensures.low c.held-second.ensures.low (low-at pairs at)
          c.changed_at.ensures.low c.loop-at.invariant.low;
      high = pairs-more high_word c.args.self.now c.args.x.now at _ _ _ pairs c.changed_at.result small c.first_held-first.ensures.high c.held-second.ensures.high (high-at pairs at)
          c.changed_at.ensures.high c.loop-at.invariant.high;
    }
