use Rattle.std.proofs.Common.{◌≡◌, ◌*◌, ◌/◌, ◌+◌, length, ap, ◌∙◌, arith}
use Rattle.psi_follow_packed.specs.declared.layout.Packed.{Packed}
use Rattle.psi_follow_sets.proofs.HalvingLemmas.{pairs-last}
use Rattle.psi_follow_sets.proofs.gathering.pair_up.Goals as goal

pub returns-clause-members : goal.returns-clause-members
returns-clause-members g c =
    let states = c.args.states.now in
    let odd : length states ≡ 2 * (length states / 2) + 1 = omega (arith, c.if-whole-states.false) in
    pairs-last states c.pair_whole.new.list (length states / 2) c.of.result c.index-states-whole.result (omega (arith, odd, c.pair_whole.ensures.room)) odd
    (c.of.ensures.low ∙ ap (λ (x : Packed g.row.K). x.words) c.index-states-whole.is) (c.of.ensures.high ∙ ap (λ (x : Packed g.row.K). x.words) c.index-states-whole.is) c.pair_whole.ensures.members
