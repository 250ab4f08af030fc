-- Whether a table fits its queues, by one place at which it is decided.
use Rattle.std.specs.Prelude.{◌≡◌, ℕ, zero, suc, ◌+◌, ◌<◌, ℤ, List, ◌∷◌, length, slice_index, slice_index_or, true, false, ◌==◌, []}
use Rattle.std.proofs.Common.{ap, arith, eqb-true}
use Rattle.std.proofs.lemmas.Bool.{and_parts, false_from_ne_true}
use Rattle.psi_reward.specs.Held.{held}
use Rattle.psi_reward.specs.Refusing.{has_rows}

-- a table that fits has as many rows as there are queues
pub length-has_rows : (queues caps : List ℕ) (table : List (List ℤ)) → has_rows (held queues caps) table ≡ true → length table ≡ length queues
length-has_rows (queue ∷ queues) caps (row ∷ table) is =
    let parts = and_parts (length row == slice_index caps queue + 1) (has_rows (held queues caps) table) is in
    ap suc (length-has_rows queues caps table parts.1)
length-has_rows queues caps table is = grind arith

-- and each has one entry more than its queue's capacity
pub row-has_rows : (queues caps : List ℕ) (table : List (List ℤ)) (i : ℕ) → has_rows (held queues caps) table ≡ true → i < length queues
    → length (slice_index_or table i []) ≡ slice_index caps (slice_index queues i) + 1
row-has_rows (queue ∷ queues) caps (row ∷ table) zero is small = eqb-true (length row) (slice_index caps queue + 1) (and_parts (length row == slice_index caps queue + 1) (has_rows (held queues caps) table) is).0
row-has_rows (queue ∷ queues) caps (row ∷ table) (suc i) is small = row-has_rows queues caps table i (and_parts (length row == slice_index caps queue + 1) (has_rows (held queues caps) table) is).1 (omega arith)
row-has_rows queues caps table i is small = grind arith

-- a table with too few or too many rows doesn't fit
pub has_rows-apart : (queues caps : List ℕ) (table : List (List ℤ)) → (length table ≡ length queues → ⊥) → has_rows (held queues caps) table ≡ false
has_rows-apart queues caps table apart = false_from_ne_true (has_rows (held queues caps) table) (λ is. apart (length-has_rows queues caps table is))

-- nor does one with a row that is too short or too long
pub has_rows-unfit : (queues caps : List ℕ) (table : List (List ℤ)) (n : ℕ) → n < length queues
    → (length (slice_index_or table n []) ≡ slice_index caps (slice_index queues n) + 1 → ⊥) → has_rows (held queues caps) table ≡ false
has_rows-unfit queues caps table n small apart = false_from_ne_true (has_rows (held queues caps) table) (λ is. apart (row-has_rows queues caps table n is small))
