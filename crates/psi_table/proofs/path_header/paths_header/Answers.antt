-- Answers in the proof of `path_header::paths_header`.
use Rattle.std.proofs.Common.{ℕ, List, [], ◌∷◌, ◌++◌, ◌≡◌, map, codes, ◌∙◌, ap}
use Rattle.std.specs.List.{flat_map}
use Rattle.csv.specs.Records.{fields_of, partial_of}
use Rattle.psi_net_model.specs.Network.{NamedReward}
use Rattle.psi_net_model.specs.declared.entries.Queue.{Queue}
use Rattle.psi_table.specs.Paths.{event_columns}
use Rattle.psi_table.proofs.PathHeaderLemmas.{paths_header_is}
use Rattle.psi_table.proofs.path_header.paths_header.Goals as goal

pub returns : goal.returns
returns c =
    let net = c.args.net.now in
    let steps : fields_of c.push_field.new.self ≡ codes "stream" ∷ codes "horizon" ∷ codes "steps" ∷ [] =
    c.in_ok-push_field.ensures.fields ∙ ap (λ (fields : List (List ℕ)). fields ++ (partial_of c.in_ok-header.header ++ codes "steps") ∷ []) c.in_ok-header.ensures.fields
    ∙ ap (λ (front : List ℕ). codes "stream" ∷ codes "horizon" ∷ (front ++ codes "steps") ∷ []) c.in_ok-header.ensures.whole in
    let queues = map (λ (q : Queue). codes "queue." ++ q.name) net.queues in
    let rewards = map (λ (r : NamedReward). codes "reward." ++ r.name) net.rewards in
    c.in_ok-push_events.ensures.fields
    ∙ ap (λ (fields : List (List ℕ)). fields ++ flat_map event_columns net.events)
    (c.in_ok-push_rewards.ensures.fields ∙ ap (λ (fields : List (List ℕ)). fields ++ rewards)
    (c.in_ok-push_queues.ensures.fields ∙ ap (λ (fields : List (List ℕ)). fields ++ queues) steps))
    ∙ paths_header_is net
