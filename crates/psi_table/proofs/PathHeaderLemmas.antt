-- The header of a table of paths, field by field.
use Rattle.std.specs.Prelude.{◌≡◌, ℕ, zero, suc, List, [], ◌∷◌, ◌++◌, map, codes, Some, refl}
use Rattle.std.specs.Fmt.{decimal}
use Rattle.std.specs.List.{slice_get, flat_map}
use Rattle.std.specs.Option.{option_map}
use Rattle.std.proofs.Common.{sym, ◌∙◌, ap, take, append_assoc}
use Rattle.psi_net_model.specs.Network.{Network, NamedReward}
use Rattle.psi_net_model.specs.declared.entries.Queue.{Queue}
use Rattle.psi_net_model.specs.declared.entries.NamedEvent.{NamedEvent}
use Rattle.psi_report.specs.Quantities.{queue_quantities}
use Rattle.psi_table.specs.Table.{names_after}
use Rattle.psi_table.specs.Paths.{event_columns, paths_header}
use Rattle.psi_table.proofs.HeaderLemmas.{queue-names, reward-names}

-- the two columns of an event of this name and server
abbrev pub columns : List ℕ → ℕ → List (List ℕ)
columns name server = (codes "event." ++ name ++ codes "." ++ decimal server) ∷ (codes "moved." ++ name ++ codes "." ++ decimal server) ∷ []

-- those of one event more
pub columns_more : (events : List NamedEvent) (i : ℕ) (name : List ℕ) (server : ℕ) → option_map (λ (v : NamedEvent). v.name) (slice_get events i) ≡ Some name
    → option_map (λ (v : NamedEvent). v.server) (slice_get events i) ≡ Some server
    → flat_map event_columns (take i events) ++ columns name server ≡ flat_map event_columns (take (suc i) events)
columns_more [] i name server named served = absurd cc
columns_more (event ∷ events) zero name server named served =
    let same : name ≡ event.name = cc in
    let also : server ≡ event.server = cc in
    rw (same, also) refl
columns_more (event ∷ events) (suc i) name server named served = ap (λ (fs : List (List ℕ)). event_columns event ++ fs) (columns_more events i name server named served)

pub paths_header_is : (net : Network)
    → (((codes "stream" ∷ codes "horizon" ∷ codes "steps" ∷ []) ++ map (λ (q : Queue). codes "queue." ++ q.name) net.queues) ++ map (λ (r : NamedReward). codes "reward." ++ r.name) net.rewards)
    ++ flat_map event_columns net.events ≡ paths_header net
unfolding paths_header
paths_header_is net =
    let front : List (List ℕ) = codes "stream" ∷ codes "horizon" ∷ codes "steps" ∷ [] in
    let queues = map (λ (q : Queue). codes "queue." ++ q.name) net.queues in
    let rewards = map (λ (r : NamedReward). codes "reward." ++ r.name) net.rewards in
    let events = flat_map event_columns net.events in
    append_assoc (front ++ queues) rewards events
    ∙ append_assoc front queues (rewards ++ events)
    ∙ ap (λ (ns : List (List ℕ)). front ++ ns) (sym (append_assoc queues rewards events))
    ∙ ap (λ (ns : List (List ℕ)). front ++ ((ns ++ rewards) ++ events)) (sym (queue-names (codes "queue.") 0 net.queues))
    ∙ ap (λ (ns : List (List ℕ)). front ++ ((names_after (codes "queue.") (queue_quantities net) ++ ns) ++ events)) (sym (reward-names (codes "reward.") net.rewards))
