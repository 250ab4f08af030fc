use Rattle.std.proofs.Common.{◌≡◌, ◌*◌, ◌^◌, ◌<◌, ℕ, List, slice_index, EachIndex}
use Rattle.psi_follow_packed.specs.Packed.{word_of}
use Rattle.psi_follow_packed.specs.Boxes.{widths}
use Rattle.psi_follow_packed.proofs.WidthsLemmas.{IsPart}
use Rattle.psi_follow_packed.proofs.boxes.times_widths.Given as goal

abbrev pub invariant-loop-rest : goal.invariant-loop-rest
invariant-loop-rest l = (x : List ℕ) → EachIndex x (λ q. slice_index x q < 2 ^ l.bits) → l.word ≡ word_of l.bits x → IsPart l.bits (l.count * widths x) l.rest l.product

abbrev pub decreases-loop-rest : goal.decreases-loop-rest
decreases-loop-rest l = l.rest
