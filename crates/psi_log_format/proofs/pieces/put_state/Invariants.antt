-- Invariants of the loops of `put_state`.
use Rattle.std.specs.Prelude.{◌∷◌, ◌+◌, ◌*◌, ◌≤◌, take}
use Rattle.psi_log_format.specs.Text.{numbers_text}
use Rattle.psi_log_format.specs.Room.{Puts}
use Rattle.psi_log_format.proofs.pieces.put_state.Given as goal

abbrev pub invariant-loop-queue : goal.invariant-loop-queue
invariant-loop-queue l = record {
  text : Puts l.fn.out l.out l.fn.at l.end (32 ∷ numbers_text (take l.queue l.x));
  short : l.end ≤ l.fn.at + 6 * l.queue;
}
