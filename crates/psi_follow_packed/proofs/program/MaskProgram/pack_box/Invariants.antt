use Rattle.std.proofs.Common.{◌≡◌, length}
use Rattle.psi_follow_packed.specs.Inner.FillingKept.{AreBehind}
use Rattle.psi_follow_packed.proofs.program.MaskProgram.pack_box.Given as goal

abbrev pub invariant-loop-queue : goal.invariant-loop-queue
invariant-loop-queue g l = record {
  behind : AreBehind l.self.packing l.bounds.lo l.bounds.hi l.queue l.count l.out;
  room : length l.out ≡ length l.fn.out;
}
