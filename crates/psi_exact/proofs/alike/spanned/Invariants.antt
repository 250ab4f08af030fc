-- Invariants of the loops of `spanned`.
use Rattle.std.proofs.Common.{◌≡◌, ℕ, ◌<◌, List, slice_index}
use Rattle.psi_state.specs.State.{IsBelow}
use Rattle.psi_exact.proofs.alike.spanned.Given as goal

-- the smaller numbers stay
abbrev pub invariant-loop-number : goal.invariant-loop-number
invariant-loop-number g l = record {
  done : (x : List ℕ) → IsBelow x (g.E.EventLaw.capacities l.e) → slice_index x l.place < l.number → slice_index (g.E.EventLaw.function l.e x) l.place ≡ slice_index x l.place;
}
