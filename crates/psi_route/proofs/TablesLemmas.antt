-- Lemmas. Which tables fit a list of queues: as many, each as long as the capacity of its queue.
use Rattle.std.specs.Prelude.{◌≡◌, ◌≢◌, ℕ, zero, suc, ◌<◌, List, [], ◌∷◌, length, get_or, slice_index, true, false, nat_eq, refl}
use Rattle.std.proofs.Common.{ap, arith}
use Rattle.std.proofs.lemmas.Bool.{eq-eqb, eqb-true, and_from, and_parts, false_from_ne_true}
use Rattle.psi_route.specs.Refusals.{are_tables}

-- as many, and each as long as its queue's capacity
pub are_tables-each : (caps qs : List ℕ) (ts : List (List ℕ)) → length ts ≡ length qs
    → ((i : ℕ) → i < length qs → length (get_or ts i []) ≡ slice_index caps (slice_index qs i)) → are_tables caps qs ts ≡ true
are_tables-each caps (q ∷ qs) (t ∷ ts) count each =
    and_from (nat_eq (length t) (slice_index caps q)) (are_tables caps qs ts) (eq-eqb (length t) (slice_index caps q) (each 0 (omega arith)))
    (are_tables-each caps qs ts (omega arith) (λ i small. each (suc i) (omega arith)))
are_tables-each caps qs ts count each = grind arith

-- and only those fit
pub are_tables-true : (caps qs : List ℕ) (ts : List (List ℕ)) → are_tables caps qs ts ≡ true
    → (length ts ≡ length qs) × ((i : ℕ) → i < length ts → length (get_or ts i []) ≡ slice_index caps (slice_index qs i))
are_tables-true caps [] [] is = (refl, λ i small. absurd (omega arith))
are_tables-true caps (q ∷ qs) (t ∷ ts) is =
    let both = and_parts (nat_eq (length t) (slice_index caps q)) (are_tables caps qs ts) is in
    let rest = are_tables-true caps qs ts both.1 in
    (ap suc rest.0, placed caps q qs t ts (eqb-true (length t) (slice_index caps q) both.0) rest.1)
  where
    placed : (caps : List ℕ) (q : ℕ) (qs t : List ℕ) (ts : List (List ℕ)) → length t ≡ slice_index caps q
        → ((i : ℕ) → i < length ts → length (get_or ts i []) ≡ slice_index caps (slice_index qs i))
        → (i : ℕ) → i < length (t ∷ ts) → length (get_or (t ∷ ts) i []) ≡ slice_index caps (slice_index (q ∷ qs) i)
    placed caps q qs t ts here there zero small = here
    placed caps q qs t ts here there (suc i) small = there i (omega arith)
are_tables-true caps qs ts is = absurd cc

-- so not tables that are too few or too many
pub are_tables-count : (caps qs : List ℕ) (ts : List (List ℕ)) → length ts ≢ length qs → are_tables caps qs ts ≡ false
are_tables-count caps qs ts other = false_from_ne_true (are_tables caps qs ts) (λ is. other (are_tables-true caps qs ts is).0)

-- nor one that is too long or too short
pub are_tables-at : (caps qs : List ℕ) (ts : List (List ℕ)) (i : ℕ) → i < length qs → length (get_or ts i []) ≢ slice_index caps (slice_index qs i)
    → length ts ≡ length qs → are_tables caps qs ts ≡ false
are_tables-at caps qs ts i small other count =
    false_from_ne_true (are_tables caps qs ts) (λ is. other ((are_tables-true caps qs ts is).1 i (omega (arith, count))))
