use Rattle.std.proofs.Common.{◌≡◌, length, take}
use Rattle.psi_follow_packed.specs.Inner.FillingKept.{AreRepeated}
use Rattle.psi_follow_packed.proofs.filling.repeat_with.Given as goal

abbrev pub invariant-loop-at : goal.invariant-loop-at
invariant-loop-at g l = record {
  first : take l.count l.out ≡ take l.count l.fn.out;
  repeated : AreRepeated l.added.words l.count l.at l.out;
  room : length l.out ≡ length l.fn.out;
}
