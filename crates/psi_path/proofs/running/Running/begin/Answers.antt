-- Before the first step all sums are those of the state at time zero, for all times.
use Rattle.std.specs.Prelude.{◌≡◌, ◌≤◌, ◌^◌, ℕ, pos, ℤ, length, slice_index, slice_index_or}
use Rattle.std.specs.Int.RustNames.{unsigned_abs}
use Rattle.std.proofs.Common.{ap, sym, ◌∙◌, subst, arith}
use Rattle.std.proofs.lemmas.List.{length-replicate}
use Rattle.psi_path.proofs.BeginLemmas.{zeros-at, integers-at, queues-begun, rewards-begun, counts-begun}
use Rattle.psi_path.proofs.StepLemmas.{few-customers}
use Rattle.psi_path.proofs.running.Running.begin.Goals as goal

pub add-requires-clause-queues : goal.add-requires-clause-queues
add-requires-clause-queues g c = ap (λ ns. length ns) c.clear.ensures.queues ∙ length-replicate _ _ ∙ c.requires.queues

pub add-requires-clause-rewards : goal.add-requires-clause-rewards
add-requires-clause-rewards g c = ap (λ zs. length zs) c.clear.ensures.rewards ∙ length-replicate _ _ ∙ c.requires.rewards

pub add-requires-clause-few_queues : goal.add-requires-clause-few_queues
add-requires-clause-few_queues g c = λ q small. (let none = ap (λ ns. slice_index ns q) c.clear.ensures.queues ∙ zeros-at _ q in omega arith)

pub add-requires-clause-few_rewards : goal.add-requires-clause-few_rewards
add-requires-clause-few_rewards g c = λ r small.
    (let none = ap (λ zs. slice_index_or zs r (pos 0)) c.clear.ensures.rewards ∙ integers-at _ r in
    subst (λ (z : ℤ). unsigned_abs z ≤ 2 ^ 96) (sym none) (omega arith))

pub returns-clause-stands : goal.returns-clause-stands
returns-clause-stands g c = λ path starts chosen changed.
    let caps = g.R.Rewards.capacities c.args.rewards.now in
    let worths = g.R.Rewards.worths c.args.rewards.now in
    let cleared = c.clear.ensures in
    let added = c.add.ensures in
    let queues : (q : ℕ) → slice_index c.clear.new.self.queues.items q ≡ 0 = λ q. ap (λ ns. slice_index ns q) cleared.queues ∙ zeros-at _ q in
    let rewards : (r : ℕ) → slice_index_or c.clear.new.self.rewards.items r (pos 0) ≡ pos 0 = λ r. ap (λ zs. slice_index_or zs r (pos 0)) cleared.rewards ∙ integers-at _ r in
    let long : length c.clear.new.self.queues.items ≡ length caps = ap (λ ns. length ns) cleared.queues ∙ length-replicate _ _ ∙ c.requires.queues in
    let rewards_long : length c.clear.new.self.rewards.items ≡ length worths = ap (λ zs. length zs) cleared.rewards ∙ length-replicate _ _ ∙ c.requires.rewards in
    let values_long : length c.clear.new.self.values.items ≡ length worths = ap (λ v. length v.items) cleared.values ∙ c.requires.values in
    let none : c.add.new.self.chosen.items ≡ _ = ap (λ v. v.items) added.chosen ∙ cleared.chosen in
    let also_none : c.add.new.self.changed.items ≡ _ = ap (λ v. v.items) added.changed ∙ cleared.changed in
    record {
      walked = 0;
      all = omega arith;
      few = (let f = c.requires.few in omega arith);
      present = sym starts;
      within = c.requires.start;
      queues = queues-begun (length caps) path c.args.steps c.args.start c.clear.new.self.queues.items c.add.new.self.queues.items starts
          (added.queue_count ∙ long) (few-customers caps c.args.start c.requires.valid c.requires.start) queues (λ q small. added.queues q (omega arith));
      rewards = rewards-begun worths path c.args.steps c.args.start c.clear.new.self.rewards.items c.add.new.self.rewards.items c.add.new.self.values.items starts
          (added.reward_count ∙ rewards_long) (added.value_count ∙ values_long) rewards added.rewards added.values added.small;
      counts = counts-begun path c.add.new.self.chosen.items c.add.new.self.changed.items
          (ap (λ ns. length ns) none ∙ length-replicate _ _ ∙ chosen) (ap (λ ns. length ns) also_none ∙ length-replicate _ _ ∙ changed)
          (λ e. ap (λ ns. slice_index ns e) none ∙ zeros-at _ e) (λ e. ap (λ ns. slice_index ns e) also_none ∙ zeros-at _ e);
    }
