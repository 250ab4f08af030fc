-- Answers in the proof of `StateTable::clear`.
use Rattle.std.proofs.Common.{◌≡◌, ℕ, List, length, ap, ◌∙◌, refl, arith}
use Rattle.std.proofs.lemmas.List.{with_items_is}
use Rattle.psi_pool.proofs.KeepingLemmas.{table-empty}
use Rattle.psi_pool.proofs.state_table.StateTable.clear.Goals as goal

pub returns-clause-table : goal.returns-clause-table
returns-clause-table c =
    let whole : length c.empty.new.heads ≡ length c.args.self.now.heads.items = c.empty.auto.heads ∙ ap (λ (hs : List ℕ). length hs) c.as_mut_slice.ensures.value in
    let used = c.buckets_for-self.ensures in
    let count = c.len.ensures in
    let buckets = c.requires.buckets in
    table-empty c.empty.new.heads (with_items_is c.args.self.now.heads c.empty.new.heads (c.empty.auto.heads ∙ c.as_mut_slice.ensures.len)) c.requires.small
    (whole ∙ buckets) (omega arith) refl c.empty.ensures
