-- Answers in the proof of `RankTable::follow`.
use Rattle.std.proofs.Common.{◌≡◌, ◌<◌, ℕ, List, length, slice_index, ap, sym, ◌∙◌, subst, arith, Vec, Global}
use Rattle.std.proofs.lemmas.List.{with_items_is}
use Rattle.psi_state.specs.State.{all_states}
use Rattle.psi_event.specs.Law.{IsClosed}
use Rattle.psi_exact.specs.Ranks.{AreRanksOf}
use Rattle.psi_exact.specs.Mapping.{Mapped, map_of, sends}
use Rattle.psi_exact.specs.Inner.RankTableKept.{table_of, AreRanks}
use Rattle.psi_exact.proofs.RankTablesLemmas.{ranks-looked_up, table_of-older}
use Rattle.psi_exact.proofs.rank_table.RankTable.follow.Goals as goal

pub look_up_all-requires : goal.look_up_all-requires
look_up_all-requires c =
    let are = subst (λ (caps : List ℕ). AreRanks caps c.args.images.now) (sym (ap (λ (t : Mapped). t.caps) c.self.view_is)) c.requires in
    let whole = are.whole in
    let long : length c.as_slice.result.now ≡ length (all_states c.self.inside.caps) = ap (λ (xs : List ℕ). length xs) c.as_slice.ensures.value ∙ c.self.invariant.own.whole in
    record {
      small = λ r small. (let fits = are.each r (omega arith) in omega arith);
      room = ap (λ (xs : List ℕ). length xs) c.as_mut_slice.ensures.value ∙ (c.self.invariant.room ∙ sym whole);
    }

pub invariant_of-self : goal.invariant_of-self
invariant_of-self c =
    let are = subst (λ (caps : List ℕ). AreRanks caps c.args.images.now) (sym (ap (λ (t : Mapped). t.caps) c.self.view_is)) c.requires in
    let count : length c.look_up_all.new.next ≡ length c.self.inside.spare.items = c.look_up_all.auto.next ∙ ap (λ (xs : List ℕ). length xs) c.as_mut_slice.ensures.value in
    let items = ap (λ (v : Vec ℕ Global). v.items) c.swap.ensures.x_after ∙ with_items_is c.self.inside.spare c.look_up_all.new.next (count ∙ sym c.self.inside.spare.ok.0) in
    let looked = subst (λ (xs : List ℕ). (r : ℕ) → r < length c.look_up_all.new.next → slice_index c.look_up_all.new.next r ≡ slice_index xs (slice_index c.args.images.now r))
    c.as_slice.ensures.value c.look_up_all.ensures in
    record {
      few = c.self.invariant.few;
      own = subst (λ (xs : List ℕ). AreRanks c.self.inside.caps xs) (sym items)
          (ranks-looked_up c.self.inside.caps c.self.inside.ranks.items c.args.images.now c.look_up_all.new.next c.self.invariant.own are
          (count ∙ (c.self.invariant.room ∙ sym are.whole)) looked);
      room = ap (λ (v : Vec ℕ Global). length v.items) c.swap.ensures.y_after ∙ c.self.invariant.own.whole;
    }

pub returns : goal.returns
returns c = λ f closed are.
    (let cap = sym (ap (λ (t : Mapped). t.caps) c.self.view_is) in
    let own = subst (λ (caps : List ℕ). AreRanksOf caps f c.args.images.now) cap are in
    let count : length c.look_up_all.new.next ≡ length c.self.inside.spare.items = c.look_up_all.auto.next ∙ ap (λ (xs : List ℕ). length xs) c.as_mut_slice.ensures.value in
    let items = ap (λ (v : Vec ℕ Global). v.items) c.swap.ensures.x_after ∙ with_items_is c.self.inside.spare c.look_up_all.new.next (count ∙ sym c.self.inside.spare.ok.0) in
    let looked = subst (λ (xs : List ℕ). (r : ℕ) → r < length c.look_up_all.new.next → slice_index c.look_up_all.new.next r ≡ slice_index xs (slice_index c.args.images.now r))
    c.as_slice.ensures.value c.look_up_all.ensures in
    ap (λ (xs : List ℕ). table_of c.self.inside.caps xs) items
    ∙ (table_of-older c.self.inside.caps c.self.inside.ranks.items c.args.images.now c.look_up_all.new.next f (subst (λ (caps : List ℕ). IsClosed caps f) cap closed)
    c.self.invariant.own own (count ∙ (c.self.invariant.room ∙ sym own.whole)) looked
    ∙ ap (λ (t : Mapped). map_of t.caps (λ x. sends t (f x))) c.self.view_is))
