-- Answers in the proof of `words::keep`.
use Rattle.std.proofs.Common.{arith}
use Rattle.psi_log_words.proofs.LineWordsLemmas.{front_more, front_full}
use Rattle.psi_log_words.proofs.words.keep.Goals as goal

pub returns-in_ok-push : goal.returns-in_ok-push
returns-in_ok-push c = front_more (λ word. word.now) 4101 c.args.words.now.items _ _ c.in_ok-push.ensures.items (omega arith)

pub returns-else-len-lt-MANY : goal.returns-else-len-lt-MANY
returns-else-len-lt-MANY c = front_full (λ word. word.now) 4101 c.args.words.now.items c.args.word (omega arith)
