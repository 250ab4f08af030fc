-- The state of each rank is added as often as it is visited.
use Rattle.std.specs.Prelude.{◌≡◌, ℕ, ◌+◌, ◌*◌, pos, ◌+ℤ◌, ◌*ℤ◌, List, slice_index, refl}
use Rattle.std.proofs.Common.{ap, sym, ◌∙◌, subst, arith}
use Rattle.psi_state.specs.State.{IsBelow}
use Rattle.psi_exact.specs.Ranks.{state_at}
use Rattle.psi_exact.proofs.PlacesLemmas.{state_at-below}
use Rattle.psi_exact.proofs.WalkLemmas.{rank-whole}
use Rattle.psi_path.specs.Sums.{worth_at}
use Rattle.psi_path.proofs.StepLemmas.{few-customers}
use Rattle.psi_path_table.specs.Trail.{left_until}
use Rattle.psi_path_table.specs.Inner.SumsKept.{sum_below, integers_below}
use Rattle.psi_path_table.proofs.SumsLemmas.{sums-more, queues-fit, rewards-fit, once-more, one-value}
use Rattle.psi_path_table.proofs.TrailLemmas.{left-few}
use Rattle.psi_path_table.proofs.visits.Visits.add_states.Goals as goal

-- ---- one state after another

pub add-requires-clause-within : goal.add-requires-clause-within
add-requires-clause-within g c =
    let caps = c.args.caps.now in
    let place = rank-whole caps caps c.unrank.result c.whole-bounds.result c.loop-rank.rank c.whole-bounds.ensures refl c.unrank.ensures in
    subst (λ (cs : List ℕ). IsBelow c.unrank.result cs) (sym c.requires.1.1.1.1.0) (subst (λ (x : List ℕ). IsBelow x caps) place.state (state_at-below caps c.loop-rank.rank place.small))

pub add-requires-clause-few_queues : goal.add-requires-clause-few_queues
add-requires-clause-few_queues g c =
    let on = c.requires.1.0.on in
    let few = left-few g.trail on.valid g.trail.steps c.loop-rank.rank (let s = on.states in let test = c.loop-rank-test.true in omega arith) in
    queues-fit c.args.caps.now (g.R.Rewards.worths c.args.rewards.now) (λ r. left_until g.trail r g.trail.steps) c.loop-rank.rank c.loop-rank.walk
    (let most = on.valid.few in omega arith) c.loop-rank.invariant.sums

pub add-requires-clause-few_rewards : goal.add-requires-clause-few_rewards
add-requires-clause-few_rewards g c =
    let on = c.requires.1.0.on in
    let few = left-few g.trail on.valid g.trail.steps c.loop-rank.rank (let s = on.states in let test = c.loop-rank-test.true in omega arith) in
    rewards-fit c.args.caps.now (g.R.Rewards.worths c.args.rewards.now) (λ r. left_until g.trail r g.trail.steps) c.loop-rank.rank c.loop-rank.walk
    (let most = on.valid.few in omega arith) c.loop-rank.invariant.sums

pub loop-rank-preserved : goal.loop-rank-preserved
loop-rank-preserved g c =
    let caps = c.args.caps.now in
    let worths = g.R.Rewards.worths c.args.rewards.now in
    let place = rank-whole caps caps c.unrank.result c.whole-bounds.result c.loop-rank.rank c.whole-bounds.ensures refl c.unrank.ensures in
    let below = subst (λ (x : List ℕ). IsBelow x caps) place.state (state_at-below caps c.loop-rank.rank place.small) in
    let added = c.add.ensures in
    record {
      sums = sums-more caps worths (λ r. left_until g.trail r g.trail.steps) c.loop-rank.rank c.visits_of.result c.unrank.result c.loop-rank.walk c.add.new.self c.visits_of.ensures place.state
          (record {
            queue_count = added.queue_count;
            reward_count = added.reward_count;
            queues = added.queues;
            rewards = added.rewards;
            few = few-customers caps c.unrank.result c.requires.1.1.1.0 below;
            small = added.small;
          }) c.loop-rank.invariant.sums;
      chosen = added.chosen ∙ c.loop-rank.invariant.chosen;
      changed = added.changed ∙ c.loop-rank.invariant.changed;
    }

-- ---- the last state once more

pub add-requires-2-clause-within : goal.add-requires-2-clause-within
add-requires-2-clause-within g c =
    let caps = c.args.caps.now in
    let place = rank-whole caps caps c.unrank-2.result c.whole-bounds.result c.args.self.now.rank c.whole-bounds.ensures refl c.unrank-2.ensures in
    subst (λ (cs : List ℕ). IsBelow c.unrank-2.result cs) (sym c.requires.1.1.1.1.0) (subst (λ (x : List ℕ). IsBelow x caps) place.state (state_at-below caps c.args.self.now.rank place.small))

pub add-requires-2-clause-few_queues : goal.add-requires-2-clause-few_queues
add-requires-2-clause-few_queues g c =
    let on = c.requires.1.0.on in
    let few = left-few g.trail on.valid g.trail.steps c.loop-rank.rank (let s = on.states in let end = c.loop-rank.auto.rank-end in omega arith) in
    queues-fit c.args.caps.now (g.R.Rewards.worths c.args.rewards.now) (λ r. left_until g.trail r g.trail.steps) c.loop-rank.rank c.loop-rank.walk
    (let most = on.valid.few in omega arith) c.loop-rank.invariant.sums

pub add-requires-2-clause-few_rewards : goal.add-requires-2-clause-few_rewards
add-requires-2-clause-few_rewards g c =
    let on = c.requires.1.0.on in
    let few = left-few g.trail on.valid g.trail.steps c.loop-rank.rank (let s = on.states in let end = c.loop-rank.auto.rank-end in omega arith) in
    rewards-fit c.args.caps.now (g.R.Rewards.worths c.args.rewards.now) (λ r. left_until g.trail r g.trail.steps) c.loop-rank.rank c.loop-rank.walk
    (let most = on.valid.few in omega arith) c.loop-rank.invariant.sums

pub returns-clause-queues : goal.returns-clause-queues
returns-clause-queues g c = λ q small.
    (let caps = c.args.caps.now in
    let place = rank-whole caps caps c.unrank-2.result c.whole-bounds.result c.args.self.now.rank c.whole-bounds.ensures refl c.unrank-2.ensures in
    let last : c.loop-rank.rank ≡ g.trail.states = (let s = c.requires.1.0.on.states in let test = c.loop-rank-test.false in let end = c.loop-rank.auto.rank-end in omega arith) in
    let sums = c.loop-rank.invariant.sums in
    c.add-2.ensures.queues q (let s = sums.queue_count in omega arith)
    ∙ ap (λ n. n + 1 * slice_index c.unrank-2.result q) (sums.queues q small ∙ ap (λ n. sum_below (λ r. left_until g.trail r g.trail.steps * slice_index (state_at caps r) q) n) last)
    ∙ ap (λ (x : List ℕ). sum_below (λ r. left_until g.trail r g.trail.steps * slice_index (state_at caps r) q) g.trail.states + 1 * slice_index x q) (sym place.state)
    ∙ once-more (sum_below (λ r. left_until g.trail r g.trail.steps * slice_index (state_at caps r) q) g.trail.states) (slice_index (state_at caps c.args.self.now.rank) q))

pub returns-clause-rewards : goal.returns-clause-rewards
returns-clause-rewards g c = λ r small.
    (let caps = c.args.caps.now in
    let worth = worth_at (g.R.Rewards.worths c.args.rewards.now) r in
    let place = rank-whole caps caps c.unrank-2.result c.whole-bounds.result c.args.self.now.rank c.whole-bounds.ensures refl c.unrank-2.ensures in
    let last : c.loop-rank.rank ≡ g.trail.states = (let s = c.requires.1.0.on.states in let test = c.loop-rank-test.false in let end = c.loop-rank.auto.rank-end in omega arith) in
    let sums = c.loop-rank.invariant.sums in
    c.add-2.ensures.rewards r small
    ∙ ap (λ z. z +ℤ (pos 1 *ℤ worth c.unrank-2.result)) (sums.rewards r small ∙ ap (λ n. integers_below (λ k. pos (left_until g.trail k g.trail.steps) *ℤ worth (state_at caps k)) n) last)
    ∙ ap (λ (x : List ℕ). integers_below (λ k. pos (left_until g.trail k g.trail.steps) *ℤ worth (state_at caps k)) g.trail.states +ℤ (pos 1 *ℤ worth x)) (sym place.state)
    ∙ ap (λ z. integers_below (λ k. pos (left_until g.trail k g.trail.steps) *ℤ worth (state_at caps k)) g.trail.states +ℤ z) (one-value (worth (state_at caps c.args.self.now.rank))))
