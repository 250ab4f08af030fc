use Rattle.std.proofs.Common.{◌≡◌, ◌<◌, ◌+◌, ◌*◌, ℕ, List, length, slice_index}
use Rattle.psi_state.specs.State.{IsBelow}
use Rattle.psi_follow_packed.specs.Packed.{packed}
use Rattle.psi_follow_packed.proofs.layout.Layout.unpack.Given as goal

abbrev pub invariant-loop-queue : goal.invariant-loop-queue
invariant-loop-queue g l = record {
  long : length l.x ≡ length l.self.caps;
  place : l.queue ≡ l.at * l.self.fields + l.field;
  field : l.field < l.self.fields;
  each : (x : List ℕ) → IsBelow x l.self.caps → l.words.words ≡ packed g.row.K l.self x → (q : ℕ) → q < l.queue → slice_index l.x q ≡ slice_index x q;
}
