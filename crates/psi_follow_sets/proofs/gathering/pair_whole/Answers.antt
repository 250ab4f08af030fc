use Rattle.std.proofs.Common.{ap, ◌∙◌, length-set, arith}
use Rattle.psi_follow_packed.specs.declared.layout.Packed.{Packed}
use Rattle.psi_follow_sets.proofs.HalvingLemmas.{pairs-next}
use Rattle.psi_follow_sets.proofs.gathering.pair_whole.Goals as goal

pub loop-at-preserved : goal.loop-at-preserved
loop-at-preserved g c =
    let at = c.loop-at.at in
    let list = c.loop-at.list in
    record {
      made = pairs-next c.args.states.now list at c.of.result c.index-states-at.result c.index-states-at-in-loop-at.result (omega (arith, c.loop-at.invariant.room)) (omega arith)
          (c.of.ensures.low ∙ ap (λ (x : Packed g.row.K). x.words) c.index-states-at.is) (c.of.ensures.high ∙ ap (λ (x : Packed g.row.K). x.words) c.index-states-at-in-loop-at.is) c.loop-at.invariant.made;
      room = length-set list at c.of.result ∙ c.loop-at.invariant.room;
    }
