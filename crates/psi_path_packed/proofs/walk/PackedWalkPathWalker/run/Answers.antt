-- The sums are those of the path.
use Rattle.std.specs.Prelude.{◌≡◌, ◌≤◌, ◌+◌, ℕ, ℤ, List, length, map, pos, slice_index, slice_index_or, All, refl}
use Rattle.std.proofs.Common.{ap, sym, ◌∙◌, subst, rules, arith}
use Rattle.std.proofs.lemmas.List.{length-map}
use Rattle.psi_state.specs.State.{IsBelow}
use Rattle.psi_path.specs.Path.{path_of, state_of}
use Rattle.psi_follow_packed.specs.Views.{low_word, high_word, moving_by}
use Rattle.psi_follow_packed.specs.declared.moves.PackedEvent.{PackedEvent}
use Rattle.psi_path_packed.specs.Counts.{CountsStand, IsByFirst}
use Rattle.psi_path_packed.proofs.RunLemmas.{same-caps, few-words, count-moves, moves-of, counts-at-end, customer-rises, customers-number, customers-is, reward-rises, reward-is}
use Rattle.psi_path_packed.proofs.walk.PackedWalkPathWalker.run.Goals as goal

pub walk-requires : goal.walk-requires
walk-requires g c κs within =
    let inside = c.self.inside in
    let few : g.row.K ≤ 32 = few-words g.E.EventLaw.capacities g.E.EventLaw.function c.args.path.now.system.now c.caps-caps.ensures.fit g.row.K (g.R.Rewards.worths c.args.path.now.rewards.now) _ _ c.self.view_is c.requires.walker in
    let count : length (map (moving_by {K = g.row.K} low_word) inside.steps.moves.items) ≡ length c.args.path.now.system.now.rates + 1 =
    count-moves g.E.EventLaw.capacities g.E.EventLaw.function c.args.path.now.system.now c.caps-caps.ensures.fit g.row.K (g.R.Rewards.worths c.args.path.now.rewards.now) _ _ c.self.view_is c.requires.walker in
    let mapped = length-map inside.steps.moves.items (moving_by {K = g.row.K} low_word) in
    let kept = c.self.invariant in
    let chosen : length inside.steps.chosen.items ≡ length c.args.path.now.system.now.rates + 1 = (let e = kept.1 in omega arith) in
    let changes : length inside.steps.changes.items ≡ length c.args.path.now.system.now.rates + 1 = (let e = kept.2 in omega arith) in
    let below : IsBelow c.args.path.now.start inside.layout.caps = subst (λ (cs : List ℕ). IsBelow c.args.path.now.start cs) (sym (same-caps g.E.EventLaw.capacities g.E.EventLaw.function c.args.path.now.system.now c.caps-caps.ensures.fit g.row.K (g.R.Rewards.worths c.args.path.now.rewards.now) _ _ c.self.view_is c.requires.walker)) c.requires.start in
    let moves = moves-of g.E.EventLaw.capacities g.E.EventLaw.function c.args.path.now.system.now c.caps-caps.ensures.fit g.row.K (g.R.Rewards.worths c.args.path.now.rewards.now) _ _ c.self.view_is c.requires.walker
    (g.P.Past.words c.args.path.now.past) c.args.path.now.start c.requires.start c.args.path.now.steps in
    (search rules, (search rules, (search rules, (search rules, (search rules, (refl, (refl, (refl, (c.requires.steps, (below, (kept.0, (moves, (chosen, changes)))))))))))))

pub put_customers-requires-clause-rises : goal.put_customers-requires-clause-rises
put_customers-requires-clause-rises g c =
    customer-rises g.E.EventLaw.capacities g.E.EventLaw.function c.args.path.now.system.now c.caps-caps.ensures.fit g.row.K (g.R.Rewards.worths c.args.path.now.rewards.now) _ _ c.self.view_is c.requires.walker
    (g.P.Past.words c.args.path.now.past) c.args.path.now.start c.requires.start c.args.path.now.steps c.requires.steps c.walk.new.self.left _ c.walk.new.self.chosen.items c.as_slice-changes.result.now c.walk.new.self.changes.items
    c.walk.ensures.left c.walk.ensures.stands.stands c.as_slice-changes.ensures.value
    c.as_slice.result.now c.as_slice.ensures.value

pub put_customers-requires-clause-sums : goal.put_customers-requires-clause-sums
put_customers-requires-clause-sums g c =
    customers-number g.E.EventLaw.capacities g.E.EventLaw.function c.args.path.now.system.now c.caps-caps.ensures.fit g.row.K (g.R.Rewards.worths c.args.path.now.rewards.now) _ _ c.self.view_is c.requires.walker
    (g.P.Past.words c.args.path.now.past) c.args.path.now.start c.requires.start c.args.path.now.steps c.requires.steps c.walk.new.self.left _ c.walk.new.self.chosen.items c.as_slice-changes.result.now c.walk.new.self.changes.items
    c.walk.ensures.left c.walk.ensures.stands.stands c.as_slice-changes.ensures.value
    c.as_slice.result.now c.as_slice.ensures.value

pub put_rewards-requires-clause-rises : goal.put_rewards-requires-clause-rises
put_rewards-requires-clause-rises g c =
    reward-rises g.E.EventLaw.capacities g.E.EventLaw.function c.args.path.now.system.now c.caps-caps.ensures.fit g.row.K (g.R.Rewards.worths c.args.path.now.rewards.now) _ _ c.self.view_is c.requires.walker
    (g.P.Past.words c.args.path.now.past) c.args.path.now.start c.requires.start c.args.path.now.steps c.requires.steps c.walk.new.self.left _ c.walk.new.self.chosen.items c.as_slice-changes.result.now c.walk.new.self.changes.items
    c.walk.ensures.left c.walk.ensures.stands.stands c.as_slice-changes.ensures.value
    c.as_slice-2.result.now c.as_slice-2.ensures.value

pub returns-clause-sums : goal.returns-clause-sums
returns-clause-sums g c =
    let system = c.args.path.now.system.now in
    let steps = c.args.path.now.steps in
    let changes = c.as_slice-changes.result.now in
    let own = path_of g.E.EventLaw.function system (g.P.Past.words c.args.path.now.past) c.args.path.now.start in
    let counts : CountsStand own steps steps c.walk.new.self.chosen.items (map high_word changes) (map low_word changes) =
    counts-at-end g.E.EventLaw.capacities g.E.EventLaw.function c.args.path.now.system.now c.caps-caps.ensures.fit g.row.K (g.R.Rewards.worths c.args.path.now.rewards.now) _ _ c.self.view_is c.requires.walker
    (g.P.Past.words c.args.path.now.past) c.args.path.now.start c.requires.start c.args.path.now.steps c.requires.steps c.walk.new.self.left _ c.walk.new.self.chosen.items c.as_slice-changes.result.now c.walk.new.self.changes.items
    c.walk.ensures.left c.walk.ensures.stands.stands c.as_slice-changes.ensures.value in
    let sized = counts.times_sized in
    let mapped = length-map changes low_word in
    let same_count = c.caps-caps.ensures.fit.same_count in
    let long = c.requires.start.same_length in
    record {
      queues = λ q small. ap (λ (ns : List ℕ). slice_index ns q) (c.put_counts.ensures.queues ∙ c.put_rewards.ensures.queues)
          ∙ customers-is g.E.EventLaw.capacities g.E.EventLaw.function c.args.path.now.system.now c.caps-caps.ensures.fit g.row.K (g.R.Rewards.worths c.args.path.now.rewards.now) _ _ c.self.view_is c.requires.walker
          (g.P.Past.words c.args.path.now.past) c.args.path.now.start c.requires.start c.args.path.now.steps c.requires.steps c.walk.new.self.left _ c.walk.new.self.chosen.items c.as_slice-changes.result.now c.walk.new.self.changes.items
          c.walk.ensures.left c.walk.ensures.stands.stands c.as_slice-changes.ensures.value
          c.as_slice.result.now c.as_slice.ensures.value q (slice_index c.put_customers.new.walk.queues q) small (c.put_customers.ensures.queues q (omega arith));
      rewards = λ r small. ap (λ (zs : List ℤ). slice_index_or zs r (pos 0)) c.put_counts.ensures.rewards ∙ c.put_rewards.ensures.rewards r small
          ∙ reward-is g.E.EventLaw.capacities g.E.EventLaw.function c.args.path.now.system.now c.caps-caps.ensures.fit g.row.K (g.R.Rewards.worths c.args.path.now.rewards.now) _ _ c.self.view_is c.requires.walker
          (g.P.Past.words c.args.path.now.past) c.args.path.now.start c.requires.start c.args.path.now.steps c.requires.steps c.walk.new.self.left _ c.walk.new.self.chosen.items c.as_slice-changes.result.now c.walk.new.self.changes.items
          c.walk.ensures.left c.walk.ensures.stands.stands c.as_slice-changes.ensures.value
          c.as_slice-2.result.now c.as_slice-2.ensures.value r small;
      chosen = λ e small. c.put_counts.ensures.chosen e (omega arith) ∙ ap (λ (ns : List ℕ). slice_index ns e) c.as_slice-3.ensures.value ∙ counts.each e (omega arith);
      changed = λ e small. c.put_counts.ensures.changed e (omega arith) ∙ counts.each_changed e (omega arith);
    }

pub returns-clause-state : goal.returns-clause-state
returns-clause-state g c =
    let stands = c.walk.ensures.stands.stands in
    let own = path_of g.E.EventLaw.function c.args.path.now.system.now (g.P.Past.words c.args.path.now.past) c.args.path.now.start in
    let walked : stands.walked ≡ c.args.path.now.steps = (let all = stands.all in let left = c.walk.ensures.left in omega arith) in
    c.unpack.ensures (state_of own stands.walked) stands.within (c.low.ensures ∙ stands.words) ∙ ap (λ k. state_of own k) walked

pub returns-clause-within : goal.returns-clause-within
returns-clause-within g c =
    let stands = c.walk.ensures.stands.stands in
    let own = path_of g.E.EventLaw.function c.args.path.now.system.now (g.P.Past.words c.args.path.now.past) c.args.path.now.start in
    subst (λ (x : List ℕ). IsBelow x c.args.path.now.system.now.caps) (sym (c.unpack.ensures (state_of own stands.walked) stands.within (c.low.ensures ∙ stands.words)))
    (subst (λ (cs : List ℕ). IsBelow (state_of own stands.walked) cs) (same-caps g.E.EventLaw.capacities g.E.EventLaw.function c.args.path.now.system.now c.caps-caps.ensures.fit g.row.K (g.R.Rewards.worths c.args.path.now.rewards.now) _ _ c.self.view_is c.requires.walker) stands.within)

pub invariant_of-self : goal.invariant_of-self
invariant_of-self g c =
    let inside = c.self.inside in
    let items = c.walk.new.self.changes.items in
    let counts = c.walk.ensures.stands.stands.counts in
    let moves = ap (λ v. v.items) c.walk.ensures.moves in
    let count : length (map (moving_by {K = g.row.K} low_word) inside.steps.moves.items) ≡ length c.args.path.now.system.now.rates + 1 =
    count-moves g.E.EventLaw.capacities g.E.EventLaw.function c.args.path.now.system.now c.caps-caps.ensures.fit g.row.K (g.R.Rewards.worths c.args.path.now.rewards.now) _ _ c.self.view_is c.requires.walker in
    let mapped = length-map inside.steps.moves.items (moving_by {K = g.row.K} low_word) in
    let same : length c.walk.new.self.moves.items ≡ length inside.steps.moves.items = ap (λ ms. length ms) moves in
    let sized = counts.sized in
    let times_sized = counts.times_sized in
    let pairs = length-map items low_word in
    (subst (λ (ms : List (PackedEvent g.row.K)). All (λ (m : PackedEvent g.row.K). IsByFirst m) ms) (sym moves) c.self.invariant.0, omega arith, omega arith)
