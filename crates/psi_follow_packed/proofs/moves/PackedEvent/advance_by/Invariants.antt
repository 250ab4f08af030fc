use Rattle.psi_follow_packed.specs.Views.{low_word, high_word}
use Rattle.psi_follow_packed.proofs.PairingLemmas.{AreChangedBy}
use Rattle.psi_follow_packed.proofs.moves.PackedEvent.advance_by.Given as goal

abbrev pub invariant-loop-at : goal.invariant-loop-at
invariant-loop-at g l = record {
  low : AreChangedBy low_word l.self l.initial.x l.at l.x.pairs;
  high : AreChangedBy high_word l.self l.initial.x l.at l.x.pairs;
}
