-- The header's fields, one after another.
use Rattle.std.specs.Prelude.{◌≡◌, ℕ, zero, suc, ◌+◌, List, [], ◌∷◌, ◌++◌, map, length, codes, true, ◌&&◌, ◌≤◌, nat_le, Some, refl}
use Rattle.std.specs.List.{list_all, slice_get}
use Rattle.std.specs.Option.{option_map}
use Rattle.std.proofs.Common.{sym, ◌∙◌, ap, take, add-one, append_assoc}
use Rattle.std.proofs.lemmas.Bool.{and_parts, leb-true}
use Rattle.psi_reward.specs.Worth.{worth_of}
use Rattle.psi_net_model.specs.Name.{is_name_byte, is_name}
use Rattle.psi_net_model.specs.Network.{Network, NamedReward}
use Rattle.psi_net_model.specs.declared.entries.Queue.{Queue}
use Rattle.psi_report.specs.Quantities.{queues_from, queue_quantities}
use Rattle.psi_table.specs.Table.{names_after, header_fields}

-- a name has at most 32 bytes
pub name_short : (name : List ℕ) → is_name name ≡ true → length name ≤ 32
unfolding is_name
name_short name is =
    let sized = and_parts (nat_le 1 (length name) && nat_le (length name) 32) (list_all is_name_byte name) is in
    leb-true (length name) 32 (and_parts (nat_le 1 (length name)) (nat_le (length name) 32) sized.0).1

-- one name more
names_more : {A : Type 0} (name_of : A → List ℕ) (word : List ℕ) (xs : List A) (i : ℕ) (name : List ℕ) → option_map name_of (slice_get xs i) ≡ Some name
    → map (λ x. word ++ name_of x) (take i xs) ++ (word ++ name) ∷ [] ≡ map (λ x. word ++ name_of x) (take (suc i) xs)
names_more name_of word [] i name at = absurd cc
names_more name_of word (x ∷ xs) zero name at = let same : name ≡ name_of x = cc in ap (λ (n : List ℕ). (word ++ n) ∷ []) same
names_more name_of word (x ∷ xs) (suc i) name at = ap (λ (ns : List (List ℕ)). (word ++ name_of x) ∷ ns) (names_more name_of word xs i name at)

-- so columns that are called by names are those of one name more, once its column is appended
pub names_pushed : {A : Type 0} (name_of : A → List ℕ) (word : List ℕ) (xs : List A) (i : ℕ) (name : List ℕ) (old before after : List (List ℕ)) → after ≡ before ++ (word ++ name) ∷ []
    → before ≡ old ++ map (λ x. word ++ name_of x) (take i xs) → option_map name_of (slice_get xs i) ≡ Some name → after ≡ old ++ map (λ x. word ++ name_of x) (take (i + 1) xs)
names_pushed name_of word xs i name old before after pushed held at =
    pushed ∙ ap (λ (fields : List (List ℕ)). fields ++ (word ++ name) ∷ []) held
    ∙ append_assoc old (map (λ x. word ++ name_of x) (take i xs)) ((word ++ name) ∷ [])
    ∙ ap (λ (fields : List (List ℕ)). old ++ fields) (names_more name_of word xs i name at)
    ∙ ap (λ n. old ++ map (λ x. word ++ name_of x) (take n xs)) (sym (add-one i))

-- the names of quantities are those of the queues and of the rewards
pub queue-names : (word : List ℕ) (i : ℕ) (queues : List Queue) → names_after word (queues_from i queues) ≡ map (λ (q : Queue). word ++ q.name) queues
unfolding queues_from
queue-names word i [] = refl
queue-names word i (queue ∷ queues) = ap (λ (ns : List (List ℕ)). (word ++ queue.name) ∷ ns) (queue-names word (i + 1) queues)

pub reward-names : (word : List ℕ) (rewards : List NamedReward)
    → names_after word (map (λ (r : NamedReward). record { name = r.name; value = worth_of r.kind }) rewards) ≡ map (λ (r : NamedReward). word ++ r.name) rewards
reward-names word [] = refl
reward-names word (r ∷ rewards) = ap (λ (ns : List (List ℕ)). (word ++ r.name) ∷ ns) (reward-names word rewards)

pub header_is : (net : Network)
    → ((codes "stream" ∷ codes "horizon" ∷ []) ++ map (λ (q : Queue). codes "queue." ++ q.name) net.queues) ++ map (λ (r : NamedReward). codes "reward." ++ r.name) net.rewards
    ≡ header_fields net
unfolding header_fields
header_is net =
    ap (λ (ns : List (List ℕ)). codes "stream" ∷ codes "horizon" ∷ (ns ++ map (λ (r : NamedReward). codes "reward." ++ r.name) net.rewards)) (sym (queue-names (codes "queue.") 0 net.queues))
    ∙ ap (λ (ns : List (List ℕ)). codes "stream" ∷ codes "horizon" ∷ (names_after (codes "queue.") (queue_quantities net) ++ ns)) (sym (reward-names (codes "reward.") net.rewards))
