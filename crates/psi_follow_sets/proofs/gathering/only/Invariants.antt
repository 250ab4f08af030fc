use Rattle.std.proofs.Common.{◌≡◌, ℕ, List, take}
use Rattle.psi_state.specs.Members.{In}
use Rattle.psi_follow_sets.specs.Inner.HalvesKept.{halves}
use Rattle.psi_follow_sets.proofs.gathering.only.Given as goal

abbrev pub invariant-loop-pair : goal.invariant-loop-pair
invariant-loop-pair g l = (w : List ℕ) → In w (halves (take l.pair-index l.list)) → w ≡ l.first.words
