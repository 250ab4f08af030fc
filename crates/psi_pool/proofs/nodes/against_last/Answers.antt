-- Answers in the proof of `against_last`.
use Rattle.std.proofs.Common.{sym, ◌∙◌}
use Rattle.psi_pool.proofs.ListingLemmas.{above-each, there-last}
use Rattle.psi_pool.proofs.nodes.against_last.Goals as goal

pub returns-clause-above : goal.returns-clause-above
returns-clause-above c = λ greater z member.
    above-each c.args.out.now c.index-out-out.result c.args.x.now z c.requires (sym c.is_empty.ensures ∙ c.if-is_empty.false) c.index-out-out.is (sym c.cmp.ensures ∙ greater) member

pub returns-clause-there : goal.returns-clause-there
returns-clause-there c = λ tied.
    there-last c.args.out.now c.index-out-out.result c.args.x.now (sym c.is_empty.ensures ∙ c.if-is_empty.false) c.index-out-out.is (sym c.cmp.ensures ∙ tied)
