-- Lists of different queues.
use Rattle.std.proofs.Common.{◌≡◌, ℕ, ◌<◌, ◌≤◌, List, [], ◌∷◌, ◌++◌, length, slice_index, true, false, refl, arith, length-append}
use Rattle.std.proofs.lemmas.List.Folds.{list_all-append, list_any-append}
use Rattle.psi_state.specs.Repeats.{repeats}
use Rattle.psi_state.proofs.RepeatsLemmas.{apart-from_repeats}
use Rattle.psi_guard.proofs.AcceptedLemmas.{few_places}
use Rattle.psi_net_document.specs.References.{is_in}
use Rattle.psi_net_document.specs.Targets.{are_below, AreTargets}
use Rattle.psi_net_document.proofs.FoundLemmas.{below_at}

-- one more that differs from all of them
pub distinct_more : (xs : List ℕ) (q : ℕ) → repeats xs ≡ false → is_in q xs ≡ false → repeats (xs ++ q ∷ []) ≡ false
distinct_more [] q distinct fresh = refl
distinct_more (x ∷ xs) q distinct fresh = grind (arith, distinct_more xs q, list_any-append {X = ℕ})

pub no_targets : (n : ℕ) (sources : List ℕ) → AreTargets n sources []
no_targets n sources = record { distinct = refl; within = refl; apart = refl }

below_more : (n : ℕ) (queues : List ℕ) (queue : ℕ) → are_below n queues ≡ true → queue < n → are_below n (queues ++ queue ∷ []) ≡ true
below_more n queues queue below small = grind (arith, list_all-append {X = ℕ})

pub targets_more : (n : ℕ) (sources queues : List ℕ) (queue : ℕ) → AreTargets n sources queues → queue < n → is_in queue queues ≡ false → is_in queue sources ≡ false
    → AreTargets n sources (queues ++ queue ∷ [])
targets_more n sources queues queue targets small fresh apart = grind (arith, distinct_more, list_all-append {X = ℕ})

-- where there are at most 32 queues, there is room for one that differs from all of them
pub room_for_more : (n : ℕ) (sources queues : List ℕ) (queue : ℕ) → n ≤ 32 → AreTargets n sources queues → queue < n → is_in queue queues ≡ false → length queues < 32
room_for_more n sources queues queue few targets small fresh =
    let distinct = distinct_more queues queue targets.distinct fresh in
    let within = below_more n queues queue targets.within small in
    let count = few_places n (length (queues ++ queue ∷ [])) (λ i. slice_index (queues ++ queue ∷ []) i) (λ i less. below_at n (queues ++ queue ∷ []) i within less)
    (λ i j first second same. apart-from_repeats (queues ++ queue ∷ []) i j distinct first second same) in
    omega (arith, length-append queues (queue ∷ []))
