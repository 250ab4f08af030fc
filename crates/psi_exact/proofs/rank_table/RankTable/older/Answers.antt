-- Answers in the proof of `RankTable::older`.
use Rattle.std.proofs.Common.{◌≡◌, ◌≤◌, ℕ, List, length, ap, sym, ◌∙◌, subst, Vec, Global}
use Rattle.std.proofs.lemmas.List.{with_items_is}
use Rattle.psi_state.specs.State.{all_states}
use Rattle.psi_exact.specs.Mapping.{Mapped, map_of, sends}
use Rattle.psi_exact.specs.Inner.RankTableKept.{table_of, AreRanks}
use Rattle.psi_exact.proofs.rank_table.RankTable.older.Goals as goal

pub write_composed-requires : goal.write_composed-requires
write_composed-requires g c =
    let cap = c.requires ∙ sym (ap (λ (t : Mapped). t.caps) c.self.view_is) in
    record {
      few = subst (λ (caps : List ℕ). length (all_states caps) ≤ 65536) (sym cap) c.self.invariant.few;
      own = subst (λ (caps : List ℕ). AreRanks caps c.as_slice.result.now) (sym cap)
          (subst (λ (xs : List ℕ). AreRanks c.self.inside.caps xs) (sym c.as_slice.ensures.value) c.self.invariant.own);
      room = ap (λ (xs : List ℕ). length xs) c.as_mut_slice.ensures.value ∙ (c.self.invariant.room ∙ ap (λ (caps : List ℕ). length (all_states caps)) (sym cap));
    }

pub invariant_of-self : goal.invariant_of-self
invariant_of-self g c =
    let cap = c.requires ∙ sym (ap (λ (t : Mapped). t.caps) c.self.view_is) in
    let count : length c.write_composed.new.next ≡ length c.self.inside.spare.items = c.write_composed.auto.next ∙ ap (λ (xs : List ℕ). length xs) c.as_mut_slice.ensures.value in
    let items = ap (λ (v : Vec ℕ Global). v.items) c.swap.ensures.x_after ∙ with_items_is c.self.inside.spare c.write_composed.new.next (count ∙ sym c.self.inside.spare.ok.0) in
    record {
      few = c.self.invariant.few;
      own = subst (λ (xs : List ℕ). AreRanks c.self.inside.caps xs) (sym items)
          (subst (λ (caps : List ℕ). AreRanks caps c.write_composed.new.next) cap c.write_composed.ensures.ranks);
      room = ap (λ (v : Vec ℕ Global). length v.items) c.swap.ensures.y_after ∙ c.self.invariant.own.whole;
    }

pub returns : goal.returns
returns g c =
    let f = g.E.EventLaw.function c.args.e.now in
    let cap = c.requires ∙ sym (ap (λ (t : Mapped). t.caps) c.self.view_is) in
    let count : length c.write_composed.new.next ≡ length c.self.inside.spare.items = c.write_composed.auto.next ∙ ap (λ (xs : List ℕ). length xs) c.as_mut_slice.ensures.value in
    let items = ap (λ (v : Vec ℕ Global). v.items) c.swap.ensures.x_after ∙ with_items_is c.self.inside.spare c.write_composed.new.next (count ∙ sym c.self.inside.spare.ok.0) in
    let made = subst (λ (xs : List ℕ). table_of c.self.inside.caps c.write_composed.new.next ≡ map_of c.self.inside.caps (λ x. sends (table_of c.self.inside.caps xs) (f x)))
    c.as_slice.ensures.value
    (subst (λ (caps : List ℕ). table_of caps c.write_composed.new.next ≡ map_of caps (λ x. sends (table_of caps c.as_slice.result.now) (f x))) cap c.write_composed.ensures.map) in
    ap (λ (xs : List ℕ). table_of c.self.inside.caps xs) items ∙ (made ∙ ap (λ (t : Mapped). map_of t.caps (λ x. sends t (f x))) c.self.view_is)
