-- Invariants of the loop of `follow_numbers`.
use Rattle.std.proofs.Common.{◌≡◌, map, take}
use Rattle.psi_kinds.specs.Moves.{moved}
use Rattle.psi_closed.specs.Closed.{total_states, follow_closed}
use Rattle.psi_closed.proofs.runs.follow_numbers.Given as goal

-- the numbers that are left make of the diagram's states what all numbers make of all states of the total
abbrev pub invariant-loop-place : goal.invariant-loop-place
invariant-loop-place l = record {
  caps : l.diagram.caps ≡ l.fn.diagram.caps;
  total : l.diagram.total ≡ l.fn.diagram.total;
  left : follow_closed l.fn.diagram.caps l.fn.diagram.total (map (λ m. moved l.fn.diagram.caps m) l.moves) (take l.place l.numbers) l.diagram.states
      ≡ follow_closed l.fn.diagram.caps l.fn.diagram.total (map (λ m. moved l.fn.diagram.caps m) l.moves) l.numbers (total_states l.fn.diagram.caps l.fn.diagram.total);
}
