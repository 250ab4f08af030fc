-- Invariants of the loops of `Guarded::leasts`.
use Rattle.std.proofs.Common.{◌≡◌, replicate, length}
use Rattle.psi_event.specs.Setting.{AreSet}
use Rattle.psi_guard.specs.Guarding.{part_of}
use Rattle.psi_guard.proofs.guarded.Guarded.leasts.Given as goal

abbrev pub invariant-loop-q : goal.invariant-loop-q
invariant-loop-q l = AreSet (λ q. q) (λ q v. v ≡ (part_of l.self.caps l.self.parts q).least) (replicate (length l.self.caps) 0) l.x l.q
