-- Answers in the proof of `RankTable::reset`.
use Rattle.std.proofs.Common.{◌≡◌, ℕ, List, length, ap, sym, ◌∙◌}
use Rattle.std.proofs.lemmas.List.{with_items_is}
use Rattle.psi_exact.specs.Mapping.{Mapped, map_of}
use Rattle.psi_exact.specs.Inner.RankTableKept.{table_of}
use Rattle.psi_exact.proofs.RankTablesLemmas.{table_of-itself}
use Rattle.psi_exact.proofs.rank_table.RankTable.reset.Goals as goal

pub returns : goal.returns
returns c =
    let count : length c.number.new.ranks ≡ length c.self.inside.ranks.items = c.number.auto.ranks ∙ ap (λ (xs : List ℕ). length xs) c.as_mut_slice.ensures.value in
    let items = with_items_is c.self.inside.ranks c.number.new.ranks (count ∙ sym c.self.inside.ranks.ok.0) in
    ap (λ (xs : List ℕ). table_of c.self.inside.caps xs) items
    ∙ (table_of-itself c.self.inside.caps c.number.new.ranks (count ∙ c.self.invariant.own.whole) c.number.ensures
    ∙ ap (λ (t : Mapped). map_of t.caps (λ x. x)) c.self.view_is)
