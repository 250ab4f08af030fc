-- Answers in the proof of `RankTable::at`.
use Rattle.std.proofs.Common.{ℕ, List, ap, sym, ◌∙◌, subst}
use Rattle.psi_state.specs.State.{IsBelow}
use Rattle.psi_exact.proofs.WalkLemmas.{In-whole}
use Rattle.psi_exact.specs.Mapping.{Mapped, sends}
use Rattle.psi_exact.proofs.SentLemmas.{sent-at}
use Rattle.psi_exact.proofs.rank_table.RankTable.at.Goals as goal

pub rank-requires-clause-member : goal.rank-requires-clause-member
rank-requires-clause-member c =
    In-whole c.args.self.now.caps c.self.inside.caps c.args.x.now c.whole-states.result c.whole-states.ensures (ap (λ (t : Mapped). t.caps) c.self.view_is) c.requires

pub returns-clause-value : goal.returns-clause-value
returns-clause-value c =
    let within = subst (λ (caps : List ℕ). IsBelow c.args.x.now caps) (sym (ap (λ (t : Mapped). t.caps) c.self.view_is)) c.requires in
    (sent-at c.self.inside.caps c.self.inside.ranks.items c.args.x.now c.unrank.result c.whole-states.result c.rank.result c.index-rank.result.now
    c.self.invariant.own within c.whole-states.ensures c.rank.ensures.place c.index-rank.ensures c.unrank.ensures).value
    ∙ ap (λ (t : Mapped). sends t c.args.x.now) c.self.view_is

pub returns-clause-within : goal.returns-clause-within
returns-clause-within c =
    let same = ap (λ (t : Mapped). t.caps) c.self.view_is in
    let within = subst (λ (caps : List ℕ). IsBelow c.args.x.now caps) (sym same) c.requires in
    subst (λ (caps : List ℕ). IsBelow c.unrank.result caps) same
    ((sent-at c.self.inside.caps c.self.inside.ranks.items c.args.x.now c.unrank.result c.whole-states.result c.rank.result c.index-rank.result.now
    c.self.invariant.own within c.whole-states.ensures c.rank.ensures.place c.index-rank.ensures c.unrank.ensures).within)
