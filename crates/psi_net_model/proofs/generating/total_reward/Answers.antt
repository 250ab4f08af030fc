-- Answers in the proof of `total_reward`.
use Rattle.psi_net_model.proofs.KeptGeneratedLemmas.{total_kept}
use Rattle.psi_net_model.proofs.generating.total_reward.Goals as goal

pub accepted_reward-requires-clause-kind : goal.accepted_reward-requires-clause-kind
accepted_reward-requires-clause-kind c = total_kept c.args.number c.queue_count-count.result c.args.caps c.first_queues.result c.in_ok-weights.weights c.requires.count c.queue_count-count.ensures.value c.first_queues.ensures c.in_ok-weights.ensures
