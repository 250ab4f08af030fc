-- Answers in the proof of `header::header_fields`.
use Rattle.std.proofs.Common.{ℕ, List, ◌++◌, map, codes, ◌∙◌, ap}
use Rattle.psi_net_model.specs.Network.{NamedReward}
use Rattle.psi_net_model.specs.declared.entries.Queue.{Queue}
use Rattle.psi_table.proofs.HeaderLemmas.{header_is}
use Rattle.psi_table.proofs.header.header_fields.Goals as goal

pub returns : goal.returns
returns c =
    let net = c.args.net.now in
    c.in_ok-push_rewards.ensures.fields
    ∙ ap (λ (fields : List (List ℕ)). fields ++ map (λ (r : NamedReward). codes "reward." ++ r.name) net.rewards)
    (c.in_ok-push_queues.ensures.fields ∙ ap (λ (fields : List (List ℕ)). fields ++ map (λ (q : Queue). codes "queue." ++ q.name) net.queues) c.in_ok-header.ensures.fields)
    ∙ header_is net
