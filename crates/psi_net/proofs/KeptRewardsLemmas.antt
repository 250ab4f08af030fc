-- Every reward that is read is accepted.
use Rattle.std.specs.Prelude.{◌≡◌, ℕ, get_or, ◌+◌, ◌<◌, ℤ, List, [], ◌∷◌, ◌++◌, length, map, take, slice_index, codes, IfOk, All, true, false, ◌==◌, Option, Ok, refl}
use Rattle.std.proofs.Common.{subst, arith, length-append}
use Rattle.std.specs.List.{flat_map}
use Rattle.std.proofs.lemmas.Bool.{and_from, eq-eqb}
use Rattle.std.proofs.lemmas.List.{map_push, take_more, take_all}
use Rattle.std.proofs.lemmas.List.Elements.{All-nil, All-push, All-append, All-from_get_or}
use Rattle.std.proofs.lemmas.List.Concat.{flat_map-append}
use Rattle.toml.specs.Data.{Data, Members}
use Rattle.psi_reward.specs.Held.{held as held_by}
use Rattle.psi_reward.specs.Refusing.{IsSmall, is_none_listed, has_rows}
use Rattle.psi_reward.specs.declared.RewardKind.{RewardKind}
use Rattle.psi_reward.specs.Rewards.{reward_caps}
use Rattle.psi_net_document.specs.Values.{required, counted_in, each}
use Rattle.psi_net_document.specs.References.{some_targets_in}
use Rattle.psi_net.specs.RewardTables.{integer_step, weights_in, grid_step, grid_in, reward_kind_of}
use Rattle.psi_net_model.specs.Draft.{named}
use Rattle.psi_net_document.specs.Targets.{are_below}
use Rattle.psi_net_model.specs.Valid.{IsReward}
use Rattle.psi_net_model.specs.declared.entries.RewardEntry.{RewardEntry}
use Rattle.psi_net_document.specs.declared.refusals.Place.{Place}
use Rattle.psi_net.specs.declared.words.RewardWord.{RewardWord}
use Rattle.psi_net_document.proofs.ReadingLemmas.{required_ok, integer_range, each_kept, counted_kept}
use Rattle.psi_net_document.proofs.FoundLemmas.{below_at}
use Rattle.psi_net_document.proofs.TargetLemmas.{AreSomeTargets, some_targets_kept}
use Rattle.psi_net_model.proofs.RewardLemmas.{reward_accepted}

listed_some : (qs : List ℕ) → 0 < length qs → is_none_listed qs ≡ false
listed_some [] h = absurd (omega arith)
listed_some (q ∷ qs) h = refl

-- what is kept of the integers read so far
record AreSmall (n : ℕ) (zs : List ℤ) : Type 0 where
  small : All IsSmall zs
  count : n ≡ length zs + 1

integer_step_kept : (place : Place) (key : List ℕ) (n : ℕ) (s t : List ℤ) (d : Data) → AreSmall n s → integer_step place key n s d ≡ Ok t → AreSmall (n + 1) t
unfolding integer_step
integer_step_kept place key n s t d kept h = grind (arith, integer_range, All-push IsSmall, length-append {A = ℤ})

integers_kept : (place : Place) (key : List ℕ) (ds : List Data) (zs : List ℤ) → each (integer_step place key) 1 [] ds ≡ Ok zs → AreSmall (1 + length ds) zs
integers_kept place key ds zs h =
    each_kept AreSmall (integer_step place key) (λ n s t d k r. integer_step_kept place key n s t d k r) ds 1 (1 + length ds) [] zs refl (record { small = All-nil IsSmall; count = refl }) h

record AreWeights (count : ℕ) (zs : List ℤ) : Type 0 where
  small : All IsSmall zs
  sized : (length zs == count) ≡ true

weights_kept : (place : Place) (count : ℕ) (d : Data) (zs : List ℤ) → weights_in place count d ≡ Ok zs → AreWeights count zs
unfolding weights_in counted_in
weights_kept place count d zs h = grind (arith, integers_kept)

rows_more : (caps : List ℕ) (rows : List (List ℤ)) (cap : ℕ) (row : List ℤ) → has_rows caps rows ≡ true → (length row == cap + 1) ≡ true → has_rows (caps ++ cap ∷ []) (rows ++ row ∷ []) ≡ true
rows_more [] [] cap row all one = and_from (length row == cap + 1) true one refl
rows_more [] (r ∷ rows) cap row all one = absurd cc
rows_more (c ∷ caps) [] cap row all one = absurd cc
rows_more (c ∷ caps) (r ∷ rows) cap row all one = grind (arith, rows_more caps rows cap row)

grid_next : (caps queues : List ℕ) (rows : List (List ℤ)) (row : List ℤ) → length rows < length queues → has_rows (held_by (take (length rows) queues) caps) rows ≡ true
    → length row ≡ slice_index caps (slice_index queues (length rows)) + 1 → has_rows (held_by (take (length rows + 1) queues) caps) (rows ++ row ∷ []) ≡ true
grid_next caps queues rows row small all one =
    rw (take_more queues (length rows) 0 small, map_push (λ (q : ℕ). slice_index caps q) (take (length rows) queues) (slice_index queues (length rows)))
    (rows_more (held_by (take (length rows) queues) caps) rows (slice_index caps (slice_index queues (length rows))) row all (eq-eqb (length row) (slice_index caps (slice_index queues (length rows)) + 1) one))

record AreGridRows (caps queues : List ℕ) (n : ℕ) (rows : List (List ℤ)) : Type 0 where
  fits : has_rows (held_by (take (length rows) queues) caps) rows ≡ true
  small : All IsSmall (flat_map (λ (row : List ℤ). row) rows)
  count : n ≡ length rows + 1

grid_step_kept : (place : Place) (caps queues : List ℕ) (n : ℕ) (s t : List (List ℤ)) (d : Data) → n < 1 + length queues → AreGridRows caps queues n s → grid_step place caps queues n s d ≡ Ok t → AreGridRows caps queues (n + 1) t
unfolding grid_step counted_in
grid_step_kept place caps queues n s t d less kept h = grind (arith, integers_kept, grid_next, flat_map-append (λ (r : List ℤ). r), All-append IsSmall, length-append {A = List ℤ})

record IsGrid (caps queues : List ℕ) (rows : List (List ℤ)) : Type 0 where
  fits : has_rows (held_by queues caps) rows ≡ true
  small : All IsSmall (flat_map (λ (row : List ℤ). row) rows)

grid_kept : (place : Place) (caps queues : List ℕ) (d : Data) (rows : List (List ℤ)) → grid_in place caps queues d ≡ Ok rows → IsGrid caps queues rows
unfolding grid_in
grid_kept place caps queues d rows h =
    let kept : AreGridRows caps queues (1 + length queues) rows =
    counted_kept place (codes "table") (length queues) d (AreGridRows caps queues) (grid_step place caps queues) (λ n s t e less k r. grid_step_kept place caps queues n s t e less k r) [] rows
    (record { fits = refl; small = All-nil IsSmall; count = refl }) h in
    let count = kept.count in
    record { fits = subst (λ (qs : List ℕ). has_rows (held_by qs caps) rows ≡ true) (take_all (length rows) queues (omega arith)) kept.fits; small = kept.small }

listed_below : (n : ℕ) (xs : List ℕ) (i d : ℕ) → are_below n xs ≡ true → i < length xs → get_or xs i d < n
listed_below n xs i d below small = All-from_get_or (λ q. q < n) xs 0 (λ k less. below_at n xs k below less) i d small

reward_kind_kept : (place : Place) (w : RewardWord) (caps queues : List ℕ) (ms : Members) → AreSomeTargets (length caps) [] queues → IfOk (reward_kind_of place w caps queues ms) (IsReward caps)
unfolding reward_kind_of
reward_kind_kept place w caps queues ms targets = grind (arith, reward_accepted, listed_some, listed_below, weights_kept, grid_kept)

pub reward_kept : (place : Place) (w : RewardWord) (names : List (List ℕ)) (caps queues : List ℕ) (found : Option Data) (ms : Members) (k : RewardKind) → length names ≡ length caps
    → required place (codes "queues") (some_targets_in place (codes "queues") names []) found ≡ Ok queues → reward_kind_of place w caps queues ms ≡ Ok k → IsReward caps k
reward_kept place w names caps queues found ms k same listed h =
    let read = required_ok place (codes "queues") (some_targets_in place (codes "queues") names []) found queues listed in
    subst (λ r. IfOk r (IsReward caps)) h (reward_kind_kept place w caps queues ms (subst (λ (n : ℕ). AreSomeTargets n [] queues) same (some_targets_kept place (codes "queues") names [] read.0 queues read.1)))

-- one reward more
pub named_more : (values : List RewardEntry) (value : RewardEntry) → map named (values ++ value ∷ []) ≡ map named values ++ named value ∷ []
named_more values value = map_push named values value

pub no_caps : (caps : List ℕ) → All (λ (v : RewardEntry). reward_caps v.reward ≡ caps) []
no_caps caps = All-nil (λ (v : RewardEntry). reward_caps v.reward ≡ caps)

pub caps_more : (caps : List ℕ) (values : List RewardEntry) (value : RewardEntry) → All (λ (v : RewardEntry). reward_caps v.reward ≡ caps) values → reward_caps value.reward ≡ caps
    → All (λ (v : RewardEntry). reward_caps v.reward ≡ caps) (values ++ value ∷ [])
caps_more caps values value all one = All-push (λ (v : RewardEntry). reward_caps v.reward ≡ caps) values value all one
