-- Steps over the pairs of a list.
use Rattle.std.specs.Prelude.{◌≡◌, ℕ, ◌+◌, ◌<◌, ◌≤◌, List, [], ◌∷◌, length, get_or, slice_set, slice_index_or}
use Rattle.std.proofs.Common.{sym, subst, ◌∙◌, arith, below_more, get_or-set_same, get_or-set_other}
use Rattle.std.proofs.lemmas.List.{get_or_default}
use Rattle.psi_follow_packed.specs.Moves.{Moving, IsMoved, no_move}
use Rattle.psi_follow_packed.specs.Views.{pair_at}
use Rattle.psi_follow_packed.specs.Programs.{Prepared, Follows}
use Rattle.psi_follow_packed.specs.declared.pairs.PackedPair.{PackedPair}
use Rattle.psi_follow_packed.proofs.MovingLemmas.{program-moves}

-- one pair more is done
pub pairs-step : {K : ℕ} (P : PackedPair K → PackedPair K → Type 0) (old now : List (PackedPair K)) (at : ℕ) (read new : PackedPair K) → at < length now
    → ((i : ℕ) → i < at → P (pair_at old i) (pair_at now i)) → ((i : ℕ) → at ≤ i → pair_at now i ≡ pair_at old i) → P (get_or now at read) new
    → (i : ℕ) → i < at + 1 → P (pair_at old i) (pair_at (slice_set now at new) i)
pairs-step {K} P old now at read new within done waiting own =
    below_more (λ i. P (pair_at old i) (pair_at (slice_set now at new) i)) at
    (λ i under. subst (λ (q : PackedPair K). P (pair_at old i) q) (sym (get_or-set_other now at i new (record { pairs = [] }) (omega arith))) (done i under))
    (subst (λ (q : PackedPair K). P (pair_at old at) q) (sym (get_or-set_same now at new (record { pairs = [] }) within))
    (subst (λ (q : PackedPair K). P q new) (get_or_default now at read (record { pairs = [] }) within ∙ waiting at (omega arith)) own))

-- and the others are as they were
pub pairs-wait : {K : ℕ} (old now : List (PackedPair K)) (at : ℕ) (new : PackedPair K) → ((i : ℕ) → at ≤ i → pair_at now i ≡ pair_at old i)
    → (i : ℕ) → at + 1 ≤ i → pair_at (slice_set now at new) i ≡ pair_at old i
pairs-wait old now at new waiting i past = get_or-set_other now at i new (record { pairs = [] }) (omega arith) ∙ waiting i (omega arith)

-- the pairs of a list are moved by the move of a number
pub pairs-follow : {K : ℕ} (p : Prepared) (number : ℕ) (words : PackedPair K → List ℕ) (m : Moving) (old new : List (PackedPair K)) → number < length p.moves
    → m ≡ slice_index_or p.moves number no_move → ((i : ℕ) → i < length old → IsMoved K m (words (pair_at old i)) (words (pair_at new i)))
    → (i : ℕ) → i < length old → Follows K p (number ∷ []) (words (pair_at old i)) (words (pair_at new i))
pairs-follow {K} p number words m old new small read moved i within = λ caps functions s prepared below same.
    program-moves K p caps functions s (words (pair_at old i)) (words (pair_at new i)) number small prepared below same
    (subst (λ (n : Moving). IsMoved K n (words (pair_at old i)) (words (pair_at new i))) read (moved i within))
