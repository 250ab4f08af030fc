use Rattle.std.proofs.Common.{sym, ◌∙◌, arith}
use Rattle.std.proofs.lemmas.Grind.{same_number_lists}
use Rattle.psi_follow_packed.specs.Packed.{packed}
use Rattle.psi_follow_packed.proofs.WordsLemmas.{length-packed}
use Rattle.psi_follow_packed.proofs.layout.Layout.pack_numbers.Goals as goal

pub returns : goal.returns
returns g c =
    same_number_lists c.loop-at.words (packed g.row.K c.args.self.now c.args.x.now)
    (c.loop-at.invariant.long ∙ sym (length-packed g.row.K c.args.self.now c.args.x.now))
    (λ w small. c.loop-at.invariant.each w (omega (arith, c.loop-at.invariant.long)))
