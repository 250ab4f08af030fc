-- Answers in the proof of `number::put_eight`.
use Rattle.std.proofs.Common.{ℕ, ◌/◌, ◌%◌, List, ◌++◌, ◌∙◌, ap, arith}
use Rattle.psi_table.proofs.NumberLemmas.{pair, decimal_pairs}
use Rattle.psi_table.proofs.number.put_eight.Goals as goal

pub returns-clause-text : goal.returns-clause-text
returns-clause-text c =
    let n = c.args.n in
    c.put_pair-2.ensures.text
    ∙ ap (λ (xs : List ℕ). xs ++ pair (n % 100)) (c.put_pair.ensures.text ∙ ap (λ (xs : List ℕ). xs ++ pair (n / 100 % 100)) c.put_four.ensures.text)
    ∙ decimal_pairs c.args.line.now.items n c.requires.some (omega arith)
