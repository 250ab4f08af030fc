-- Answers in the proof of `push_small`.
use Rattle.std.specs.Prelude.{[], ◌∷◌, ◌+◌, ◌/◌, ◌%◌, ◌++◌, ℕ, List}
use Rattle.std.proofs.Common.{ap, sym, ◌∙◌, append_assoc, arith}
use Rattle.psi_reply.proofs.ListingLemmas.{decimal_two}
use Rattle.psi_reply.proofs.pieces.push_small.Goals as goal

pub returns : goal.returns
returns c =
    let old = c.args.text.now.items in
    let n = c.args.customers in
    c.push_reserved-3.ensures.items
    ∙ (ap (λ (front : List ℕ). front ++ (48 + n % 10) ∷ []) c.push_reserved-2.ensures.items
    ∙ (append_assoc old ((48 + n / 10) ∷ []) ((48 + n % 10) ∷ [])
    ∙ ap (λ (digits : List ℕ). old ++ digits) (sym (decimal_two n (omega arith) (omega arith)))))
