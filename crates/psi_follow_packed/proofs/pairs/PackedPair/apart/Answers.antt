use Rattle.psi_follow_packed.specs.Views.{low_words, high_words}
use Rattle.psi_follow_packed.proofs.PairingLemmas.{low-at, high-at, apart-more}
use Rattle.psi_follow_packed.proofs.pairs.PackedPair.apart.Goals as goal

pub loop-at-preserved : goal.loop-at-preserved
loop-at-preserved g c =
    let at = c.loop-at.at in
    let own = c.args.self.now in
    let other = c.args.other.now in
    record {
      low = apart-more at (low_words own) (low_words other) _ _ _ _ _ c.loop-at.invariant.low c.ones_if_apart.ensures.low (low-at own.pairs at) (low-at other.pairs at) c.or-apart.ensures.low;
      high = apart-more at (high_words own) (high_words other) _ _ _ _ _ c.loop-at.invariant.high c.ones_if_apart.ensures.high (high-at own.pairs at) (high-at other.pairs at) c.or-apart.ensures.high;
    }
