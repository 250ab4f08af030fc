-- The totals with one sample more.
use Rattle.std.proofs.Common.{◌≡◌, ℕ, ◌+◌, ◌^◌, ◌∙◌, sym, ap, subst, arith}
use Rattle.std.proofs.lemmas.List.{length-map}
use Rattle.psi_state.specs.State.{IsBelow}
use Rattle.psi_state.specs.declared.Outcome.{Outcome}
use Rattle.psi_state.specs.declared.Outcome.TheVariants.{Met}
use Rattle.psi_net_model.specs.Network.{caps_of}
use Rattle.psi_net_model.specs.declared.entries.Queue.{Queue}
use Rattle.psi_report.specs.Samples.{IsHorizon, IsSampleOf}
use Rattle.psi_report.specs.Totals.{Totals}
use Rattle.psi_report.proofs.StandsLemmas.{can_add, few_added, with_met, with_met_is, stands_met, stands_not_met}
use Rattle.psi_report.proofs.tally.Tally.add.Goals as goal

pub overflow_add-self : goal.overflow_add-self
overflow_add-self c =
    let more = can_add c.args.net.now c.requires.stands c.self.view_is in
    let few = more.samples in
    omega arith

pub overflow_add-self-2 : goal.overflow_add-self-2
overflow_add-self-2 c =
    let more = can_add c.args.net.now c.requires.stands c.self.view_is in
    let few = more.met in
    omega arith

pub count_horizon-requires-clause-room : goal.count_horizon-requires-clause-room
count_horizon-requires-clause-room c =
    (can_add c.args.net.now c.requires.stands c.self.view_is).counts

pub add_customers-requires-clause-as_many : goal.add_customers-requires-clause-as_many
add_customers-requires-clause-as_many c =
    let more = can_add c.args.net.now c.requires.stands c.self.view_is in
    let P : Outcome → Type 0 = λ o. IsSampleOf c.args.net.now o in
    let sample : IsHorizon c.in-Met.horizon × IsBelow c.in-Met.state (caps_of c.args.net.now) = subst P c.in-Met.is c.requires.sample in
    more.queues ∙ sym (sample.1.same_length ∙ length-map c.args.net.now.queues (λ (q : Queue). q.capacity))

pub add_rewards-requires-clause-as_many : goal.add_rewards-requires-clause-as_many
add_rewards-requires-clause-as_many c =
    (can_add c.args.net.now c.requires.stands c.self.view_is).rewards

pub invariant_of-self-2 : goal.invariant_of-self-2
invariant_of-self-2 c =
    (c.add_customers.ensures.small c.self.inside.samples c.self.invariant.0, c.add_rewards.ensures.small c.self.inside.samples c.self.invariant.1)

pub returns-in_default : goal.returns-in_default
returns-in_default c = λ outcomes stands.
    let few = few_added c.args.net.now outcomes c.requires.stands stands in
    rw c.in_default.is (stands_not_met c.args.net.now outcomes c.in_default.field-0 c.args.self.now _ stands few (ap (λ (t : Totals). record t { samples = t.samples + 1 }) c.self.view_is))

pub returns : goal.returns
returns c = λ outcomes stands.
    let few = few_added c.args.net.now outcomes c.requires.stands stands in
    let P : Outcome → Type 0 = λ o. IsSampleOf c.args.net.now o in
    let sample : IsHorizon c.in-Met.horizon × IsBelow c.in-Met.state (caps_of c.args.net.now) = subst P c.in-Met.is c.requires.sample in
    let exponent : ℕ = sample.0.exponent in
    let is : c.args.outcome.now ≡ Met (2 ^ exponent) c.in-Met.state = c.in-Met.is ∙ ap (λ h. Met h c.in-Met.state) sample.0.power in
    rw is (stands_met c.args.net.now outcomes exponent c.in-Met.state c.args.self.now _ stands few sample.0.few sample.1
    (with_met_is c.self.inside.samples c.self.inside.met exponent c.in-Met.state c.args.net.now.rewards c.self.inside.horizons c.count_horizon.new.horizons c.self.inside.queues.items
    c.add_customers.new.queues.items c.self.inside.rewards.items c.add_rewards.new.rewards.items (c.count_horizon.ensures exponent sample.0.power) c.add_customers.ensures.values c.add_rewards.ensures.values
    ∙ ap (λ (t : Totals). with_met t exponent c.in-Met.state c.args.net.now.rewards) c.self.view_is))
