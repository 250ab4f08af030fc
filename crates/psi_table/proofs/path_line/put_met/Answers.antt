-- Answers in the proof of `path_line::put_met`.
use Rattle.std.proofs.Common.{ℕ, List, [], ◌∷◌, ◌++◌, length, ◌∙◌, ap}
use Rattle.std.specs.Fmt.{decimal}
use Rattle.psi_table.specs.PathLines.{pieces, customers_piece, reward_piece, event_piece}
use Rattle.psi_table.proofs.PathLineLemmas.{line_walked}
use Rattle.psi_table.proofs.path_line.put_met.Goals as goal

pub returns-clause-text : goal.returns-clause-text
returns-clause-text c seed state are =
    let old = c.args.line.now.items in
    let net = c.args.net.now in
    let sums = c.args.walked.now.walk.now in
    let second = c.put_counted.ensures.text ∙ ap (λ (xs : List ℕ). xs ++ 44 ∷ decimal c.args.horizon) c.put_number.ensures.text in
    let third = c.put_counted-2.ensures.text ∙ ap (λ (xs : List ℕ). xs ++ 44 ∷ decimal c.args.walked.now.steps) second in
    let queues = rw c.queues.ensures.count at c.put_queues.ensures.text in
    let rewards = rw c.rewards.ensures at c.put_rewards.ensures.text in
    let events = rw c.events.ensures.count at c.put_events.ensures.text in
    let few_queues = rw c.queues.ensures.count at c.put_queues.ensures.small in
    let few_rewards = rw c.rewards.ensures at c.put_rewards.ensures.small in
    let few_chosen = rw c.events.ensures.count at c.put_events.ensures.small in
    let few_changed = rw c.events.ensures.count at c.put_events.ensures.also_small in
    let fourth = queues ∙ ap (λ (xs : List ℕ). xs ++ pieces (customers_piece sums) (length net.queues)) third in
    let fifth = rewards ∙ ap (λ (xs : List ℕ). xs ++ pieces (reward_piece sums) (length net.rewards)) fourth in
    let sixth = events ∙ ap (λ (xs : List ℕ). xs ++ pieces (event_piece sums) (length net.events)) fifth in
    c.push_reserved.ensures.items ∙ ap (λ (xs : List ℕ). xs ++ 10 ∷ []) sixth
    ∙ line_walked old net seed c.args.walked.now.steps c.args.stream c.args.horizon state sums c.ranges.stream.fits c.ranges.horizon.fits c.put_counted-2.ensures.small
    (record { queues = few_queues; rewards = few_rewards; chosen = few_chosen; changed = few_changed }) are
