-- Invariants of the loops of `regions::read_state`.
use Rattle.std.specs.Prelude.{◌≡◌, length, take, drop}
use Rattle.psi_log_words.specs.Refusal.{each}
use Rattle.psi_log_words.specs.Words.{pieces_of, number_in}
use Rattle.psi_log_words.proofs.TurnLemmas.{onto}
use Rattle.psi_log_words.proofs.PieceTurnsLemmas.{IsRest}
use Rattle.psi_log_words.proofs.regions.read_state.Given as goal

abbrev pub invariant-loop-queue : goal.invariant-loop-queue
invariant-loop-queue l = record {
  count : length l.x ≡ l.queues;
  rest : IsRest l.word l.rest l.queue;
  value : onto (take l.queue l.x) (each (number_in l.line 0 65535) (drop l.queue (pieces_of l.word))) ≡ each (number_in l.line 0 65535) (pieces_of l.word);
}
