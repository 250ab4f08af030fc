-- The state that a table sends a state to.
use Rattle.std.specs.Prelude.{◌≡◌, ℕ, ◌<◌, List, slice_get, slice_index, slice_index_or, length, Some, refl}
use Rattle.std.proofs.Common.{ap, sym, ◌∙◌, subst, arith}
use Rattle.std.proofs.lemmas.List.{get_or_default}
use Rattle.psi_state.specs.State.{Corners, IsBelow, box}
use Rattle.psi_exact.specs.Ranks.{rank_of, state_at}
use Rattle.psi_exact.proofs.PlacesLemmas.{state_at-below}
use Rattle.psi_exact.proofs.WalkLemmas.{whole, rank-whole}
use Rattle.psi_exact.specs.Mapping.{sends}
use Rattle.psi_exact.specs.Inner.RankTableKept.{table_of, AreRanks}
use Rattle.psi_exact.proofs.RankTablesLemmas.{sends-table_of}

-- what a table has for the rank of a state is the rank of the state that it sends it to
pub record IsSent (caps ranks x y : List ℕ) : Type 0 where
  pub value : y ≡ sends (table_of caps ranks) x
  pub within : IsBelow y caps

pub sent-at : (caps ranks x y : List ℕ) (b : Corners) (place rank : ℕ) → AreRanks caps ranks → IsBelow x caps → b ≡ whole caps
    → slice_get (box b.lo b.hi) place ≡ Some x → rank ≡ slice_index_or ranks place rank → slice_get (box b.lo b.hi) rank ≡ Some y → IsSent caps ranks x y
sent-at caps ranks x y b place rank are within is from read to =
    let first = rank-whole caps caps x b place is refl from in
    let second = rank-whole caps caps y b rank is refl to in
    let small = first.small in
    let whole = are.whole in
    let inside : place < length ranks = omega arith in
    let looked : rank ≡ slice_index ranks (rank_of caps x) =
    read ∙ (get_or_default ranks place rank 0 inside ∙ ap (λ n. slice_index ranks n) first.rank) in
    record {
      value = sym second.state ∙ (ap (λ n. state_at caps n) looked ∙ sym (sends-table_of caps ranks x are within));
      within = subst (λ (z : List ℕ). IsBelow z caps) second.state (state_at-below caps rank second.small);
    }
