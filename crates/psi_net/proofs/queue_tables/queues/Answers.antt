-- Answers in the proof of `queues`.
use Rattle.std.proofs.Common.{List, map, ap, sym, ◌∙◌, subst}
use Rattle.psi_net_model.specs.Valid.{AreListed}
use Rattle.psi_net_model.specs.declared.entries.Queue.{Queue}
use Rattle.psi_net.proofs.KeptQueuesLemmas.{queues_kept}
use Rattle.psi_net_model.proofs.QueueLemmas.{names_few, names_same}
use Rattle.psi_net.proofs.queue_tables.queues.Goals as goal

pub capacities-caps-requires : goal.capacities-caps-requires
capacities-caps-requires c = subst (λ (qs : List Queue). AreListed qs) (sym c.as_slice.ensures.value) (queues_kept _ _ c.in-Ok-read.ensures.value)

pub new-requires : goal.new-requires
new-requires c = names_few _ _ (queues_kept _ _ c.in-Ok-read.ensures.value) c.in-Ok-read.ensures.names

pub invariant_of-result : goal.invariant_of-result
invariant_of-result c =
    let listed = queues_kept _ _ c.in-Ok-read.ensures.value in
    let held = c.capacities-caps.ensures.value ∙ ap (λ (qs : List Queue). map (λ (q : Queue). q.capacity) qs) c.as_slice.ensures.value in
    record {
      listed = listed;
      named = rw c.new.ensures c.in-Ok-read.ensures.names;
      held = held;
      same = names_same _ _ _ (rw c.new.ensures c.in-Ok-read.ensures.names) held;
      valid = c.capacities-caps.ensures.valid;
    }
