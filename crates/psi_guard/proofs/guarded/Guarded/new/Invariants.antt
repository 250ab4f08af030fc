-- Invariants of the loops of `Guarded::new`.
use Rattle.std.proofs.Common.{◌≡◌, take, drop}
use Rattle.psi_guard.specs.Refusals.{AreGuards, refusal_after, refusal_of}
use Rattle.psi_guard.proofs.guarded.Guarded.new.Given as goal

abbrev pub invariant-loop-part : goal.invariant-loop-part
invariant-loop-part l = record {
  kept : l.kept ≡ take l.part-index l.parts;
  guards : AreGuards l.caps l.kept;
  left : refusal_after l.caps l.kept (drop l.part-index l.parts) ≡ refusal_of l.caps l.parts;
}
