-- Invariants of the loops of `push_image_lines`.
use Rattle.std.proofs.Common.{◌≡◌, ◌++◌, take}
use Rattle.psi_reply.specs.Surveys.{image_lines}
use Rattle.psi_reply.proofs.surveys.push_image_lines.Given as goal

abbrev pub invariant-loop-k : goal.invariant-loop-k
invariant-loop-k l = l.text.items ≡ l.fn.text.items ++ image_lines 0 (take l.k l.sizes)
