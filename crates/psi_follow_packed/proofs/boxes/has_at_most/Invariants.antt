use Rattle.std.proofs.Common.{◌≡◌, ◌*◌, ℕ, List, length, drop}
use Rattle.psi_state.specs.State.{box}
use Rattle.psi_follow_packed.specs.Packed.{Packing, IsPacking}
use Rattle.psi_state.specs.Volume.{volume}
use Rattle.psi_follow_packed.specs.Boxes.{AreCorners, AreGaps}
use Rattle.psi_follow_packed.proofs.WidthsLemmas.{IsSoFar}
use Rattle.psi_follow_packed.proofs.boxes.has_at_most.Given as goal

abbrev pub invariant-loop-at : goal.invariant-loop-at
invariant-loop-at g l = (p : Packing) (low high : List ℕ) → IsPacking g.row.K p → p.bits ≡ l.bits → AreGaps g.row.K low high l.gaps.words
    → (lo hi : List ℕ) → AreCorners g.row.K p low high lo hi
    → IsSoFar l.most l.count (volume (drop (l.at * p.fields) lo) (drop (l.at * p.fields) hi)) (length (box lo hi))
