-- Lists of queues that are read, and what kinds ask of them.
use Rattle.std.specs.Prelude.{◌≡◌, ℕ, ◌+◌, ◌<◌, List, [], ◌∷◌, length, slice_index, EachIndex, true, false, not, nat_eq, Ok, refl}
use Rattle.std.proofs.Common.{arith, length-append}
use Rattle.std.specs.List.{list_all, list_any}
use Rattle.std.proofs.lemmas.Bool.{ltb-true}
use Rattle.toml.specs.Data.{Data}
use Rattle.psi_state.specs.Repeats.{repeats}
use Rattle.psi_net_document.specs.Refusal.{holds_or}
use Rattle.psi_net_document.specs.Values.{array_in, each}
use Rattle.psi_net_document.specs.References.{is_in, target_in, target_step, targets_in, some_targets_in}
use Rattle.psi_net_document.specs.Targets.{are_below, AreTargets}
use Rattle.psi_net_document.specs.declared.refusals.Place.{Place}
use Rattle.psi_net_document.proofs.ReadingLemmas.{bind_ok, held, each_kept, queue_small}
use Rattle.psi_net_document.proofs.PigeonLemmas.{no_targets, distinct_more}
use Rattle.std.proofs.lemmas.List.Folds.{list_all-append}
use Rattle.psi_net_document.proofs.FoundLemmas.{below_at}

-- what the queues read so far keep
record AreSome (count : ℕ) (sources : List ℕ) (n : ℕ) (queues : List ℕ) : Type 0 where
  targets : AreTargets count sources queues
  length_is : n ≡ length queues + 1

target_step_kept : (place : Place) (key : List ℕ) (names : List (List ℕ)) (sources : List ℕ) (n : ℕ) (s t : List ℕ) (d : Data) → AreSome (length names) sources n s
    → target_step place key names sources n s d ≡ Ok t → AreSome (length names) sources (n + 1) t
unfolding target_step
target_step_kept place key names sources n s t d kept h = grind (arith, queue_small, distinct_more, list_all-append {X = ℕ}, length-append {A = ℕ})

all_targets : (place : Place) (key : List ℕ) (names : List (List ℕ)) (sources : List ℕ) (ds : List Data) (qs : List ℕ) → each (target_step place key names sources) 1 [] ds ≡ Ok qs
    → AreSome (length names) sources (1 + length ds) qs
all_targets place key names sources ds qs h =
    each_kept (AreSome (length names) sources) (target_step place key names sources) (target_step_kept place key names sources) ds 1 (1 + length ds) [] qs refl
    (record { targets = no_targets (length names) sources; length_is = omega arith }) h

-- a list that is read
pub targets_kept : (place : Place) (key : List ℕ) (names : List (List ℕ)) (sources : List ℕ) (d : Data) (qs : List ℕ) → targets_in place key names sources d ≡ Ok qs
    → AreTargets (length names) sources qs
unfolding targets_in
targets_kept place key names sources d qs h =
    let elements = bind_ok (array_in place key d) _ qs h in (all_targets place key names sources elements.0 qs elements.2).targets

-- and one of at least one name
pub record AreSomeTargets (n : ℕ) (sources queues : List ℕ) : Type 0 where
  pub distinct : repeats queues ≡ false
  pub within : are_below n queues ≡ true
  pub apart : list_all (λ queue. not (is_in queue sources)) queues ≡ true
  pub some : 0 < length queues

pub some_targets_kept : (place : Place) (key : List ℕ) (names : List (List ℕ)) (sources : List ℕ) (d : Data) (qs : List ℕ) → some_targets_in place key names sources d ≡ Ok qs
    → AreSomeTargets (length names) sources qs
unfolding some_targets_in
some_targets_kept place key names sources d qs h =
    let elements = bind_ok (array_in place key d) _ qs h in
    let some = bind_ok (holds_or _ _) _ qs elements.2 in
    let kept = all_targets place key names sources elements.0 qs some.2 in
    let many : 0 < length elements.0 = ltb-true 0 (length elements.0) (held _ _ some.0 some.1) in
    let count : 1 + length elements.0 ≡ length qs + 1 = kept.length_is in
    record { distinct = kept.targets.distinct; within = kept.targets.within; apart = kept.targets.apart; some = omega arith }

-- a single name is a queue's, and isn't a source's
pub target_small : (place : Place) (key : List ℕ) (names : List (List ℕ)) (sources : List ℕ) (d : Data) (q : ℕ) → target_in place key names sources d ≡ Ok q → q < length names
unfolding target_in
target_small place key names sources d q h = grind (arith, queue_small)

pub target_apart : (place : Place) (key : List ℕ) (names : List (List ℕ)) (sources : List ℕ) (d : Data) (q : ℕ) → target_in place key names sources d ≡ Ok q → is_in q sources ≡ false
unfolding target_in
target_apart place key names sources d q h = grind arith

-- a source that isn't among the targets
pub away : (source : ℕ) (qs : List ℕ) → list_all (λ q. not (is_in q (source ∷ []))) qs ≡ true → list_any (λ q. nat_eq q source) qs ≡ false
away source [] h = refl
away source (q ∷ qs) h = grind (arith, away source qs)

-- the queues are among those of the capacities
pub among : (n : ℕ) (qs : List ℕ) → are_below n qs ≡ true → EachIndex qs (λ i. slice_index qs i < n)
among n qs below = λ i small. below_at n qs i below small
