use Rattle.std.proofs.Common.{◌≤◌, List, length, take, ap, sym, subst, ◌∙◌, arith}
use Rattle.std.proofs.lemmas.List.{with_items_is, length-take-le}
use Rattle.psi_state.specs.Ascending.{HaveSame}
use Rattle.psi_follow_packed.specs.declared.layout.Packed.{Packed}
use Rattle.psi_follow_packed.specs.declared.pairs.PackedPair.{PackedPair}
use Rattle.psi_follow_sets.specs.Inner.HalvesKept.{halves, words_of_first}
use Rattle.psi_follow_sets.proofs.HalvingLemmas.{same-again, some-left}
use Rattle.psi_state.proofs.SameLemmas.{same-through}
use Rattle.psi_follow_sets.proofs.lists.Lists.thin.Goals as goal

pub returns-clause-members : goal.returns-clause-members
returns-clause-members g c =
    let own = c.args.self.now in
    let list = c.pair_up-self.new.list in
    let out = c.gather-count.new.out in
    let n = c.gather-count.result in
    let states = c.deref-2.ensures.value ∙ with_items_is own.states out (c.gather-count.auto.out ∙ c.as_mut_slice-2.ensures.len) in
    let gathered : HaveSame (words_of_first n out) (halves (take own.used own.pairs.items)) =
    subst (λ (ps : List (PackedPair g.row.K)). HaveSame (words_of_first n out) (halves (take own.used ps))) c.deref.ensures.value c.gather-count.ensures.members in
    let paired : HaveSame (halves (take c.pair_up-self.result list)) (words_of_first n out) =
    same-again out c.deref-2.result.now n (halves (take c.pair_up-self.result list)) states c.pair_up-self.ensures.members in
    subst (λ (ps : List (PackedPair g.row.K)). HaveSame (halves (take c.pair_up-self.result ps)) (halves (take own.used own.pairs.items)))
    (sym (with_items_is own.pairs list (c.pair_up-self.auto.list ∙ c.as_mut_slice-3.ensures.len)))
    (same-through paired gathered)

pub returns-clause-some : goal.returns-clause-some
returns-clause-some g c =
    let own = c.args.self.now in
    let out = c.gather-count.new.out in
    let n = c.gather-count.result in
    let states = c.deref-2.ensures.value ∙ with_items_is own.states out (c.gather-count.auto.out ∙ c.as_mut_slice-2.ensures.len) in
    let pairs = ap (λ (ps : List (PackedPair g.row.K)). length ps) c.deref.ensures.value in
    let front = length-take-le own.used c.deref.result.now (omega (arith, pairs, c.requires.lists.fits)) in
    let some : 1 ≤ n = some-left out n (take own.used c.deref.result.now) c.gather-count.ensures.members (omega (arith, front, c.requires.some)) in
    let long = ap (λ (xs : List (Packed g.row.K)). length xs) states in
    let outs = ap (λ (xs : List (Packed g.row.K)). length xs) c.as_mut_slice-2.ensures.value in
    let back = length-take-le n c.deref-2.result.now
    (omega (arith, long, outs, pairs, front, c.gather-count.ensures.fewer, c.gather-count.ensures.room, c.requires.lists.double, c.requires.lists.fits)) in
    omega (arith, some, back, c.pair_up-self.ensures.count)
