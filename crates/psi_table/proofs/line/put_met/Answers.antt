-- Answers in the proof of `line::put_met`.
use Rattle.std.proofs.Common.{ℕ, ◌≡◌, List, [], ◌∷◌, ◌++◌, length, ◌∙◌, ap, sym}
use Rattle.std.specs.Fmt.{decimal}
use Rattle.std.proofs.lemmas.List.{length-map}
use Rattle.psi_net_model.specs.declared.entries.Queue.{Queue}
use Rattle.psi_table.specs.Lines.{customers_fields, rewards_fields}
use Rattle.psi_table.proofs.LineLemmas.{line_met}
use Rattle.psi_table.proofs.line.put_met.Goals as goal

pub returns-clause-text : goal.returns-clause-text
returns-clause-text c =
    let old = c.args.line.now.items in
    let net = c.args.net.now in
    let state = c.args.state.now in
    let count : length net.queues ≡ length state = sym (c.requires.within.same_length ∙ length-map net.queues (λ (q : Queue). q.capacity)) in
    let second = c.push_reserved.ensures.items ∙ ap (λ (xs : List ℕ). xs ++ 44 ∷ []) c.put_number.ensures.text in
    let third = c.put_number-2.ensures.text ∙ ap (λ (xs : List ℕ). xs ++ decimal c.args.horizon) second in
    let fourth = c.put_queues.ensures.text ∙ ap (λ (xs : List ℕ). xs ++ customers_fields state) third in
    let fifth = c.put_rewards.ensures.text ∙ ap (λ (xs : List ℕ). xs ++ rewards_fields state net.rewards) fourth in
    c.push_reserved-2.ensures.items ∙ ap (λ (xs : List ℕ). xs ++ 10 ∷ []) fifth
    ∙ line_met old net c.args.stream c.args.horizon state c.ranges.stream.fits c.ranges.horizon.fits count c.put_queues.ensures.small c.put_rewards.ensures.small
