-- Answers in the proof of `RankTable::image_size`.
use Rattle.std.proofs.Common.{ℕ, List, length, ap, sym, ◌∙◌}
use Rattle.psi_state.specs.State.{all_states}
use Rattle.psi_state.specs.Sets.{image}
use Rattle.psi_exact.specs.Mapping.{Mapped, sends}
use Rattle.psi_exact.specs.Distinct.{distinct_count}
use Rattle.psi_exact.proofs.RankTablesLemmas.{image-table_of}
use Rattle.psi_exact.proofs.DistinctLemmas.{length-ranks}
use Rattle.psi_exact.proofs.rank_table.RankTable.image_size.Goals as goal

pub returns-clause-size : goal.returns-clause-size
returns-clause-size c =
    c.count_distinct.ensures
    ∙ (ap (λ (xs : List ℕ). distinct_count xs) c.as_slice.ensures.value
    ∙ (sym (length-ranks c.self.inside.caps c.self.inside.ranks.items c.self.invariant.own)
    ∙ (sym (ap (λ (xs : List (List ℕ)). length xs) (image-table_of c.self.inside.caps c.self.inside.ranks.items c.self.invariant.own))
    ∙ ap (λ (t : Mapped). length (image (sends t) (all_states t.caps))) c.self.view_is)))
