-- Answers in the proof of `RankTable::constant`.
use Rattle.std.proofs.Common.{◌<◌, ℕ, List, length, Some, refl, ap, sym, ◌∙◌, subst, arith}
use Rattle.psi_state.specs.State.{Corners, IsBelow, box, all_states}
use Rattle.psi_state.specs.Sets.{image, single}
use Rattle.psi_exact.specs.Ranks.{state_at}
use Rattle.psi_exact.proofs.PlacesLemmas.{state_at-below}
use Rattle.psi_exact.proofs.WalkLemmas.{rank-whole}
use Rattle.psi_exact.specs.Mapping.{Mapped, sends}
use Rattle.psi_exact.specs.Distinct.{AreAll, AreMixed}
use Rattle.psi_exact.proofs.RankTablesLemmas.{some-rank, single-all, single-mixed}
use Rattle.psi_exact.proofs.rank_table.RankTable.constant.Goals as goal

pub common-requires : goal.common-requires
common-requires c =
    let some = some-rank c.self.inside.caps c.self.inside.ranks.items c.self.invariant.own in
    omega (arith, ap (λ (xs : List ℕ). length xs) c.as_slice.ensures.value)

pub returns-in_err-rank-clause-value : goal.returns-in_err-rank-clause-value
returns-in_err-rank-clause-value c =
    let mixed = subst (λ (xs : List ℕ). AreMixed xs) c.as_slice.ensures.value c.in_err-rank.ensures in
    c.from_residual.ensures
    ∙ (sym (single-mixed c.self.inside.caps c.self.inside.ranks.items c.self.invariant.own mixed)
    ∙ ap (λ (t : Mapped). single (image (sends t) (all_states t.caps))) c.self.view_is)

pub unrank-requires : goal.unrank-requires
unrank-requires c =
    let all = subst (λ (xs : List ℕ). AreAll c.in_ok-rank.rank xs) c.as_slice.ensures.value c.in_ok-rank.ensures in
    let some = some-rank c.self.inside.caps c.self.inside.ranks.items c.self.invariant.own in
    let whole = c.self.invariant.own.whole in
    let is = all.each 0 (omega arith) in
    let fits = c.self.invariant.own.each 0 (omega arith) in
    let small : c.in_ok-rank.rank < length (all_states c.self.inside.caps) = omega arith in
    subst (λ (b : Corners). c.in_ok-rank.rank < length (box b.lo b.hi)) (sym c.whole.ensures) small

pub returns-clause-within : goal.returns-clause-within
returns-clause-within c =
    let is = rank-whole c.self.inside.caps c.self.inside.caps c.unrank.result c.whole.result c.in_ok-rank.rank c.whole.ensures refl c.unrank.ensures in
    subst (λ (x : List ℕ). IsBelow x c.args.self.now.caps) is.state
    (subst (λ (caps : List ℕ). IsBelow (state_at c.self.inside.caps c.in_ok-rank.rank) caps) (ap (λ (t : Mapped). t.caps) c.self.view_is)
    (state_at-below c.self.inside.caps c.in_ok-rank.rank is.small))

pub returns-clause-value : goal.returns-clause-value
returns-clause-value c =
    let all = subst (λ (xs : List ℕ). AreAll c.in_ok-rank.rank xs) c.as_slice.ensures.value c.in_ok-rank.ensures in
    let is = rank-whole c.self.inside.caps c.self.inside.caps c.unrank.result c.whole.result c.in_ok-rank.rank c.whole.ensures refl c.unrank.ensures in
    ap (λ (x : List ℕ). Some x) (sym is.state)
    ∙ (sym (single-all c.self.inside.caps c.self.inside.ranks.items c.in_ok-rank.rank c.self.invariant.own all)
    ∙ ap (λ (t : Mapped). single (image (sends t) (all_states t.caps))) c.self.view_is)
