-- Invariants of the loops of `moves::read_move`.
use Rattle.std.specs.Prelude.{◌≡◌, length, map, drop, true}
use Rattle.std.specs.List.{list_all}
use Rattle.psi_log_words.specs.Words.{has_pieces}
use Rattle.psi_log_words.proofs.MovedLemmas.{AreRead}
use Rattle.psi_log_words.proofs.moves.read_move.Given as goal

abbrev pub invariant-loop-word : goal.invariant-loop-word
invariant-loop-word l = record {
  long : length l.to.lo ≡ l.queues;
  shaped : list_all (has_pieces 3) (map (λ word. word.now) (drop l.word-index l.words)) ≡ true;
  read : AreRead l.line l.queues l.from (map (λ word. word.now) l.words) (map (λ word. word.now) (drop l.word-index l.words)) l.to l.next l.ordered;
}
