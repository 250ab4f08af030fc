use Rattle.std.proofs.Common.{◌≡◌, ◌<◌, ℕ, length, map, slice_index_or, IsTrue}
use Rattle.psi_follow_packed.specs.Views.{low_word, high_word, moving_by}
use Rattle.psi_follow_packed.specs.Moves.{IsLowered, ChangesNothing, no_move}
use Rattle.psi_follow_packed.specs.Programs.{IsMoveFor}
use Rattle.psi_follow_packed.proofs.program.MaskProgram.new.Given as goal

abbrev pub invariant-loop-event : goal.invariant-loop-event
invariant-loop-event g l = record {
  long : length l.moves.items ≡ l.event-index;
  room : l.moves.cap ≡ length l.events;
  each : (i : ℕ) → i < l.event-index → IsMoveFor g.row.K l.layout (slice_index_or (map g.E.EventLaw.function l.events) i (λ x. x)) (slice_index_or (map (moving_by low_word) l.moves.items) i no_move);
  same : map (moving_by high_word) l.moves.items ≡ map (moving_by low_word) l.moves.items;
  lowered : (i : ℕ) → i < l.event-index → IsLowered g.row.K (slice_index_or (map (moving_by low_word) l.moves.items) i no_move);
  alone : IsTrue l.first_alone → (i : ℕ) → i < l.event-index → ChangesNothing g.row.K (slice_index_or (map (moving_by low_word) l.moves.items) i no_move).second;
}
