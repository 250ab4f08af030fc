-- Answers in the proof of `number::put_four`.
use Rattle.std.proofs.Common.{ℕ, ◌/◌, ◌%◌, List, ◌++◌, ◌∙◌, ap, sym, arith}
use Rattle.std.specs.Fmt.{decimal}
use Rattle.psi_table.proofs.NumberLemmas.{pair, decimal_pair, pieces_two}
use Rattle.psi_table.proofs.number.put_four.Goals as goal

pub returns-clause-text : goal.returns-clause-text
returns-clause-text c =
    let n = c.args.n in
    c.put_pair.ensures.text ∙ ap (λ (xs : List ℕ). xs ++ pair (n % 100)) c.put_short-2.ensures.text
    ∙ pieces_two c.args.line.now.items (decimal (n / 100)) (pair (n % 100)) (decimal n) (sym (decimal_pair n (omega arith) (omega arith)))
