-- Invariants of the loops of `Past::fill`.
use Rattle.std.proofs.Common.{◌≡◌, ℕ, ◌+◌, ◌<◌, length}
use Rattle.std.specs.Prelude.{slice_index}
use Rattle.psi_past.proofs.past.Past.fill.Given as goal

-- the places before this one are filled
abbrev pub invariant-loop-i : goal.invariant-loop-i
invariant-loop-i g l = record {
  count : length l.out ≡ length l.fn.out;
  filled : (j : ℕ) → j < l.i → slice_index l.out j ≡ g.Self.Past.words l.fn.self (l.place + j);
  same : l.self ≡ l.fn.self;
}
