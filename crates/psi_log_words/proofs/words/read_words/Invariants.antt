-- Invariants of the loops of `words::read_words`.
use Rattle.std.specs.Prelude.{map}
use Rattle.psi_log_words.proofs.LineWordsLemmas.{AreKept}
use Rattle.psi_log_words.proofs.words.read_words.Given as goal

abbrev pub invariant-loop-at : goal.invariant-loop-at
invariant-loop-at l = AreKept l.text l.at l.first (map (λ word. word.now) l.words.items)
