use Rattle.std.proofs.Common.{◌≡◌, ◌<◌, ℕ, slice_index}
use Rattle.psi_follow_packed.proofs.layout.Packed.is.Given as goal

abbrev pub invariant-loop-at : goal.invariant-loop-at
invariant-loop-at g l = (w : ℕ) → w < l.at → slice_index l.self.words w ≡ slice_index l.other.words w
