-- Answers in the proof of `numbers::piece_in`.
use Rattle.std.proofs.Common.{◌+◌, ap, sym, ◌∙◌, Ok, ℕ, drop, arith}
use Rattle.std.proofs.lemmas.List.Sums.{prefix_len-le-length}
use Rattle.psi_log_words.specs.Words.{is_digit}
use Rattle.psi_log_words.proofs.PieceLemmas.{whole_piece, comma_behind, nothing_behind, other_piece, small_piece, large_piece, right_piece}
use Rattle.psi_log_words.proofs.NumeralLemmas.{not_number}
use Rattle.psi_log_words.proofs.numbers.piece_in.Goals as goal

pub returns-in_default-clause-value : goal.returns-in_default-clause-value
returns-in_default-clause-value c = rw c.at.ensures (small_piece c.args.line c.args.most c.args.word.now (omega arith) c.in_default.ensures)

pub returns-then-value-most-clause-value : goal.returns-then-value-most-clause-value
returns-then-value-most-clause-value c = rw c.at-then-value-most.ensures (large_piece c.args.line c.args.most c.args.word.now (omega (arith, c.in-Some.ensures.1)))

pub returns-then-count-word-clause-value : goal.returns-then-count-word-clause-value
returns-then-count-word-clause-value c =
    let ends = whole_piece c.args.word.now (omega (arith, c.in-Some.ensures.2)) in
    right_piece c.args.line c.args.most c.args.word.now (omega (arith, c.in-Some.ensures.2)) c.in-Some.ensures.0 (omega (arith, c.in-Some.ensures.1))
    ∙ ap (λ (n : ℕ). Ok n) (sym c.in-Some.ensures.1)

pub returns-then-count-word-clause-rest : goal.returns-then-count-word-clause-rest
returns-then-count-word-clause-rest c = sym (nothing_behind c.args.word.now (whole_piece c.args.word.now (omega (arith, c.in-Some.ensures.2))))

pub returns-then-word-count-eq44-clause-value : goal.returns-then-word-count-eq44-clause-value
returns-then-word-count-eq44-clause-value c =
    let within = prefix_len-le-length is_digit c.args.word.now in
    let ends = comma_behind c.args.word.now c.in-Some.count c.in-Some.ensures.2 (omega (arith, c.in-Some.ensures.2)) c.if-word-count-eq44.true in
    right_piece c.args.line c.args.most c.args.word.now (ends ∙ c.in-Some.ensures.2) c.in-Some.ensures.0 (omega (arith, c.in-Some.ensures.1))
    ∙ ap (λ (n : ℕ). Ok n) (sym c.in-Some.ensures.1)

pub returns-then-word-count-eq44-clause-rest : goal.returns-then-word-count-eq44-clause-rest
returns-then-word-count-eq44-clause-rest c =
    let within = prefix_len-le-length is_digit c.args.word.now in
    let ends = comma_behind c.args.word.now c.in-Some.count c.in-Some.ensures.2 (omega (arith, c.in-Some.ensures.2)) c.if-word-count-eq44.true in
    c.split_at.ensures.back ∙ ap (λ (k : ℕ). drop (k + 1) c.args.word.now) (sym ends)

pub returns-clause-value : goal.returns-clause-value
returns-clause-value c =
    let within = prefix_len-le-length is_digit c.args.word.now in
    rw c.at-2.ensures (not_number c.args.line 0 c.args.most _ (other_piece c.args.word.now c.in-Some.count c.in-Some.ensures.2 (omega (arith, c.in-Some.ensures.2)) c.if-word-count-eq44.false))
