-- Answers in the proof of `like::read_like_set`.
use Rattle.std.proofs.Common.{rules, ◌∙◌, length, arith, refl}
use Rattle.std.proofs.lemmas.List.{take_rest}
use Rattle.psi_log_scan.proofs.LikeLemmas.{like_word, like_set}
use Rattle.psi_log_scan.proofs.like.read_like_set.Goals as goal

pub read_like-requires-clause-word : goal.read_like-requires-clause-word
read_like-requires-clause-word c = take_rest c.args.last.text.now 5 ∙ like_word (length c.args.row.now) c.args.last.text.now c.args.row.now c.requires.last

pub returns-clause-told : goal.returns-clause-told
returns-clause-told c =
    (like_set (length c.args.row.now) c.args.text.now c.read_like.new.row c.args.at c.in_ok-end.end (omega arith) c.in_ok-end.ensures.count (search rules)
    (c.if-not-has_name.ensures.there refl) c.in_ok-end.ensures.there).0

pub returns-clause-there : goal.returns-clause-there
returns-clause-there c =
    (like_set (length c.args.row.now) c.args.text.now c.read_like.new.row c.args.at c.in_ok-end.end (omega arith) c.in_ok-end.ensures.count (search rules)
    (c.if-not-has_name.ensures.there refl) c.in_ok-end.ensures.there).1
