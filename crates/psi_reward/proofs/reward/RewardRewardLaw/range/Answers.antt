-- Answers in the proof of `RewardRewardLaw::range`.
use Rattle.std.specs.Prelude.{◌≡◌, List, ℕ}
use Rattle.std.proofs.Common.{ap, sym, ◌∙◌, subst, arith, rules, to_z, of_z, w64}
use Rattle.std.proofs.lemmas.Int.{ints}
use Rattle.psi_state.specs.State.{IsBelow, box}
use Rattle.psi_reward.specs.Spans.{IsRange}
use Rattle.psi_reward.specs.Worth.{worth_of}
use Rattle.psi_reward.proofs.ExtentsLemmas.{least-range, greatest-range}
use Rattle.psi_reward.proofs.AcceptedLemmas.{length-table, reach-table, range-linear, range-table, range-corners, spread-between, range-same}
use Rattle.psi_reward.proofs.reward.RewardRewardLaw.range.Goals as goal

pub table_range-requires-clause-lengths : goal.table_range-requires-clause-lengths
table_range-requires-clause-lengths c = length-table c.args.self.now.caps c.in-Table.queues c.in-Table.table c.args.self.now.kind c.in-Table.is c.args.self.now.valid

pub table_range-requires-clause-rows : goal.table_range-requires-clause-rows
table_range-requires-clause-rows c =
    reach-table c.args.self.now.caps c.in-Table.queues c.hi-hi.result c.in-Table.table c.args.self.now.kind c.in-Table.is c.args.self.now.valid
    (subst (λ (x : List ℕ). IsBelow x c.args.self.now.caps) (sym c.hi-hi.ensures.value) c.requires)

pub returns-in-Linear : goal.returns-in-Linear
returns-in-Linear c =
    let range : IsRange (worth_of c.args.self.now.kind) (box c.args.b.now.lo c.args.b.now.hi) c.weighted_range.result.0 c.weighted_range.result.1 =
    range-linear _ _ _ _ _ _ _ _ c.in-Linear.is c.args.self.now.valid c.lo-lo.ensures.ordered c.requires (spread-between _ _ _ _ _ _ _ _ c.lo-lo.ensures.value c.hi-hi.ensures.value c.weighted_range.ensures) in
    search (rules, least-range, greatest-range)

pub returns-in-Table : goal.returns-in-Table
returns-in-Table c =
    let range : IsRange (worth_of c.args.self.now.kind) (box c.args.b.now.lo c.args.b.now.hi) c.table_range.result.0 c.table_range.result.1 =
    range-table _ _ _ _ _ _ _ _ c.in-Table.is c.args.self.now.valid c.lo-lo.ensures.ordered c.requires (spread-between _ _ _ _ _ _ _ _ c.lo-lo.ensures.value c.hi-hi.ensures.value c.table_range.ensures) in
    search (rules, least-range, greatest-range)

pub returns-in_default : goal.returns-in_default
returns-in_default c =
    let own : IsRange (worth_of c.args.self.now.kind) (box c.args.b.now.lo c.args.b.now.hi) (worth_of c.args.self.now.kind c.args.b.now.lo) (worth_of c.args.self.now.kind c.args.b.now.hi) =
    range-corners c.args.self.now.caps c.args.b.now.lo c.args.b.now.hi c.args.self.now.kind c.in_default.not-Linear c.in_default.not-Table c.args.self.now.valid c.lo-lo.ensures.ordered c.requires in
    let low : to_z w64 (of_z w64 c.value.result) ≡ c.value.result = omega (arith, ints) in
    let high : to_z w64 (of_z w64 c.value-in_default.result) ≡ c.value-in_default.result = omega (arith, ints) in
    let range : IsRange (worth_of c.args.self.now.kind) (box c.args.b.now.lo c.args.b.now.hi) (to_z w64 (of_z w64 c.value.result)) (to_z w64 (of_z w64 c.value-in_default.result)) =
    range-same (worth_of c.args.self.now.kind) (box c.args.b.now.lo c.args.b.now.hi) _ _ _ _
    (sym (low ∙ (c.value.ensures ∙ ap (λ (x : List ℕ). worth_of c.args.self.now.kind x) c.lo-lo.ensures.value)))
    (sym (high ∙ (c.value-in_default.ensures ∙ ap (λ (x : List ℕ). worth_of c.args.self.now.kind x) c.hi-hi.ensures.value))) own in
    search (rules, least-range, greatest-range)
