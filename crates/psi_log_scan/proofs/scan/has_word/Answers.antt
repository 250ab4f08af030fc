-- Answers in the proof of `scan::has_word`.
use Rattle.std.proofs.Common.{◌∙◌, sym, arith}
use Rattle.psi_log_words.proofs.WordLemmas.{same_word}
use Rattle.psi_log_scan.proofs.ScanLemmas.{word_stands}
use Rattle.psi_log_scan.proofs.scan.has_word.Goals as goal

pub returns-clause-there : goal.returns-clause-there
returns-clause-there c = λ holds. word_stands c.args.text.now c.args.word.now c.args.at (omega arith) (same_word _ _ (sym c.eq.ensures ∙ holds))
