-- The moves of the events before this one are made.
use Rattle.std.proofs.Common.{◌≡◌, ◌+◌, ◌<◌, ℕ, All, length, map, slice_index_or}
use Rattle.psi_follow_packed.specs.Moves.{no_move}
use Rattle.psi_follow_packed.specs.Programs.{IsMoveFor}
use Rattle.psi_follow_packed.specs.Views.{low_word, moving_by}
use Rattle.psi_path_packed.specs.Counts.{IsByFirst}
use Rattle.psi_path_packed.proofs.moves.moves_of.Given as goal

abbrev pub invariant-loop-event : goal.invariant-loop-event
invariant-loop-event g l = record {
  long : length l.moves.items ≡ l.event-index;
  room : l.moves.cap ≡ length l.events + 1;
  first : All IsByFirst l.moves.items;
  each : (i : ℕ) → i < l.event-index → IsMoveFor g.row.K l.layout (slice_index_or (map g.E.EventLaw.function l.events) i (λ x. x)) (slice_index_or (map (moving_by low_word) l.moves.items) i no_move);
}
