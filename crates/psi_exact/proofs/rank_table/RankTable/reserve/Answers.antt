-- Answers in the proof of `RankTable::reserve`.
use Rattle.std.proofs.Common.{◌≡◌, ℕ, List, length, ap, sym, ◌∙◌}
use Rattle.std.proofs.lemmas.List.{with_items_is}
use Rattle.psi_state.specs.State.{all_states}
use Rattle.psi_exact.specs.Inner.RankTableKept.{table_of}
use Rattle.psi_exact.proofs.RankTablesLemmas.{table_of-itself}
use Rattle.psi_exact.proofs.rank_table.RankTable.reserve.Goals as goal

pub returns : goal.returns
returns c =
    let count : length c.number.new.ranks ≡ length c.in_ok-ranks.ranks.items = c.number.auto.ranks ∙ ap (λ (xs : List ℕ). length xs) c.as_mut_slice.ensures.value in
    let items = with_items_is c.in_ok-ranks.ranks c.number.new.ranks (count ∙ sym c.in_ok-ranks.ranks.ok.0) in
    let whole : length c.number.new.ranks ≡ length (all_states c.args.caps) =
    count ∙ (c.in_ok-ranks.ensures ∙ c.requires.all) in
    ap (λ (xs : List ℕ). table_of c.args.caps xs) items ∙ table_of-itself c.args.caps c.number.new.ranks whole c.number.ensures
