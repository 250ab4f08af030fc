use Rattle.std.proofs.Common.{◌<◌, length, map, slice_index, ◌∙◌, arith, length-set}
use Rattle.std.proofs.lemmas.List.{length-map}
use Rattle.std.proofs.lemmas.Grind.{same_number_lists}
use Rattle.psi_follow_packed.specs.Views.{low_word, high_word}
use Rattle.psi_follow_packed.proofs.PairingLemmas.{words-set}
use Rattle.psi_follow_packed.proofs.pairs.PackedPair.of.Goals as goal

pub loop-at-preserved : goal.loop-at-preserved
loop-at-preserved g c =
    let pairs = c.loop-at.pairs in
    let at = c.loop-at.at in
    let low = c.args.low.now.words in
    let high = c.args.high.now.words in
    let own = c.of.result in
    let small : at < length pairs = omega (arith, c.loop-at.invariant.long) in
    record {
      long = length-set pairs at own ∙ c.loop-at.invariant.long;
      low = words-set low_word pairs at own (λ w. slice_index low w) small c.loop-at.invariant.low c.of.ensures.low;
      high = words-set high_word pairs at own (λ w. slice_index high w) small c.loop-at.invariant.high c.of.ensures.high;
    }

pub returns-clause-low : goal.returns-clause-low
returns-clause-low g c =
    same_number_lists (map low_word c.loop-at.pairs) c.args.low.now.words (omega (arith, length-map c.loop-at.pairs low_word, c.loop-at.invariant.long))
    (λ w small. c.loop-at.invariant.low w (omega (arith, length-map c.loop-at.pairs low_word, c.loop-at.invariant.long)))

pub returns-clause-high : goal.returns-clause-high
returns-clause-high g c =
    same_number_lists (map high_word c.loop-at.pairs) c.args.high.now.words (omega (arith, length-map c.loop-at.pairs high_word, c.loop-at.invariant.long))
    (λ w small. c.loop-at.invariant.high w (omega (arith, length-map c.loop-at.pairs high_word, c.loop-at.invariant.long)))
