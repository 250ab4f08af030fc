-- Invariants of the loops of `regions::read_states`.
use Rattle.std.specs.Prelude.{◌≡◌, ◌≤◌, length, map, take, drop, true}
use Rattle.std.specs.List.{list_all}
use Rattle.psi_log_words.specs.Refusal.{each}
use Rattle.psi_log_words.specs.Words.{has_pieces}
use Rattle.psi_log_words.specs.Regions.{read_state}
use Rattle.psi_log_words.proofs.TurnLemmas.{onto}
use Rattle.psi_log_words.proofs.regions.read_states.Given as goal

abbrev pub invariant-loop-word : goal.invariant-loop-word
invariant-loop-word l = record {
  queues : l.states.queues ≡ l.queues;
  count : length l.fn.states.states ≤ length l.states.states;
  kept : take (length l.fn.states.states) l.states.states ≡ l.fn.states.states;
  shaped : list_all (has_pieces l.queues) (map (λ word. word.now) (drop l.word-index l.words)) ≡ true;
  value : onto (drop (length l.fn.states.states) l.states.states) (each (read_state l.line) (map (λ word. word.now) (drop l.word-index l.words)))
      ≡ each (read_state l.line) (map (λ word. word.now) l.words);
}
