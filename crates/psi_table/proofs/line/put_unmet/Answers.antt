-- Answers in the proof of `line::put_unmet`.
use Rattle.std.proofs.Common.{ℕ, ◌+◌, List, [], ◌∷◌, ◌++◌, length, replicate, ◌∙◌, ap}
use Rattle.psi_table.proofs.LineLemmas.{line_unmet}
use Rattle.psi_table.proofs.line.put_unmet.Goals as goal

pub returns-clause-text : goal.returns-clause-text
returns-clause-text c limit =
    let net = c.args.net.now in
    let fields = rw (c.queues.ensures.count, c.rewards.ensures) at c.put_empty.ensures.text in
    let second = fields ∙ ap (λ (xs : List ℕ). xs ++ replicate (length net.queues + length net.rewards + 1) 44) c.put_number.ensures.text in
    c.push_reserved.ensures.items ∙ ap (λ (xs : List ℕ). xs ++ 10 ∷ []) second ∙ line_unmet c.args.line.now.items net c.args.stream limit c.ranges.stream.fits
