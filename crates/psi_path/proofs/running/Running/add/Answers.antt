-- A state is added by turning nothing into it.
use Rattle.std.specs.Prelude.{◌≡◌, ◌*◌, pos, slice_index, slice_index_or}
use Rattle.std.proofs.Common.{ap, ◌∙◌, arith}
use Rattle.psi_path.specs.Sums.{worth_at}
use Rattle.psi_path.proofs.BeginLemmas.{zeros-at, integers-at}
use Rattle.psi_path.proofs.IntegerLemmas.{added-integer}
use Rattle.psi_path.proofs.running.Running.add.Goals as goal

pub returns-clause-queues : goal.returns-clause-queues
returns-clause-queues g c = λ q small.
    (let none : slice_index c.zero-none.result q ≡ 0 = ap (λ ns. slice_index ns q) c.zero-none.ensures ∙ zeros-at _ q in
    let times : c.args.times * slice_index c.zero-none.result q ≡ c.args.times * 0 = ap (λ n. c.args.times * n) none in
    let turned = c.turn_queues.ensures.sums q small in omega arith)

pub returns-clause-rewards : goal.returns-clause-rewards
returns-clause-rewards g c = λ r small.
    (let worths = g.R.Rewards.worths c.args.rewards.now in
    let none : slice_index_or c.fill.new.self.items r (pos 0) ≡ pos 0 = ap (λ zs. slice_index_or zs r (pos 0)) (c.fill.ensures.items (λ y is. is)) ∙ integers-at _ r in
    added-integer c.args.times (slice_index_or c.turn_rewards.new.sums.items r (pos 0)) (slice_index_or c.args.self.now.rewards.items r (pos 0))
    (slice_index_or c.fill.new.self.items r (pos 0)) (worth_at worths r c.args.x.now) none (c.turn_rewards.ensures.sums r small))
