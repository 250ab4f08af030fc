-- The table of functions that agree on all states.
use Rattle.std.specs.Prelude.{◌≡◌, ℕ, ◌+◌, ◌*◌, List, length, slice_index_or}
use Rattle.std.proofs.Common.{ap, ◌∙◌, arith}
use Rattle.psi_state.specs.State.{IsBelow, all_states}
use Rattle.psi_exact.specs.Ranks.{rank_of, state_at}
use Rattle.psi_exact.proofs.PlacesLemmas.{state_at-below}
use Rattle.psi_path_table.specs.Table.{Table, IsTableOf}

pub table-agree : (caps : List ℕ) (fs gs : List (List ℕ → List ℕ)) (table : Table) → length fs ≡ length gs
    → ((e : ℕ) (x : List ℕ) → IsBelow x caps → slice_index_or fs e (λ y. y) x ≡ slice_index_or gs e (λ y. y) x)
    → IsTableOf caps fs table → IsTableOf caps gs table
table-agree caps fs gs table long agree is = record {
  same = is.same;
  few = is.few;
  rows = record {
    whole = is.rows.whole ∙ ap (λ n. (n + 1) * length (all_states caps)) long;
    each = λ e r row small.
        is.rows.each e r (let l = long in omega arith) small
        ∙ ap (λ (x : List ℕ). rank_of caps x) (agree e (state_at caps r) (state_at-below caps r small));
  };
}
