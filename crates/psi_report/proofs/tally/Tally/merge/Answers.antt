-- The totals of both together.
use Rattle.std.proofs.Common.{◌^◌, arith}
use Rattle.psi_report.proofs.StandsLemmas.{can_join, few_joined, stands_joined}
use Rattle.psi_report.proofs.SmallLemmas.{small_more, small_paired}
use Rattle.psi_report.proofs.tally.Tally.merge.Goals as goal

pub join_all-requires-clause-as_many : goal.join_all-requires-clause-as_many
join_all-requires-clause-as_many c =
    (can_join c.requires c.self.view_is c.other.view_is).queues

pub join_all-requires-2-clause-as_many : goal.join_all-requires-2-clause-as_many
join_all-requires-2-clause-as_many c =
    (can_join c.requires c.self.view_is c.other.view_is).rewards

pub join_all-requires-clause-other : goal.join_all-requires-clause-other
join_all-requires-clause-other c =
    let both = can_join c.requires c.self.view_is c.other.view_is in
    let few = both.samples in
    small_more c.other.inside.samples (2 ^ 32) c.other.inside.queues.items (omega arith) c.other.invariant.0

pub join_all-requires-2-clause-other : goal.join_all-requires-2-clause-other
join_all-requires-2-clause-other c =
    let both = can_join c.requires c.self.view_is c.other.view_is in
    let few = both.samples in
    small_more c.other.inside.samples (2 ^ 32) c.other.inside.rewards.items (omega arith) c.other.invariant.1

pub join_counts-requires : goal.join_counts-requires
join_counts-requires c =
    (can_join c.requires c.self.view_is c.other.view_is).counts

pub overflow_add-self : goal.overflow_add-self
overflow_add-self c =
    let both = can_join c.requires c.self.view_is c.other.view_is in
    let few = both.samples in
    omega arith

pub overflow_add-self-2 : goal.overflow_add-self-2
overflow_add-self-2 c =
    let both = can_join c.requires c.self.view_is c.other.view_is in
    let few = both.met in
    omega arith

pub invariant_of-self : goal.invariant_of-self
invariant_of-self c = (
  rw c.join_all.ensures (small_paired c.self.inside.samples c.other.inside.samples c.self.inside.met c.other.inside.met c.self.inside.queues.items c.other.inside.queues.items c.self.invariant.0 c.other.invariant.0),
  rw c.join_all-2.ensures (small_paired c.self.inside.samples c.other.inside.samples c.self.inside.met c.other.inside.met c.self.inside.rewards.items c.other.inside.rewards.items c.self.invariant.1 c.other.invariant.1),
)

pub returns : goal.returns
returns c = λ net outcomes others first second.
    let few = few_joined net outcomes others c.requires first second in
    let own = c.self.view_is in
    let other = c.other.view_is in
    stands_joined net outcomes others c.args.self.now c.args.other.now _ first second few (cc (c.join_all.ensures, c.join_all-2.ensures, c.join_counts.ensures))
