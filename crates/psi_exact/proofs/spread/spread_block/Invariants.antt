-- Invariants of the loops of `spread_block`.
use Rattle.std.proofs.Common.{◌≡◌, ◌+◌, ◌*◌}
use Rattle.psi_exact.specs.Alike.{IsSpread}
use Rattle.psi_exact.proofs.spread.spread_block.Given as goal

abbrev pub invariant-loop-number : goal.invariant-loop-number
invariant-loop-number l = record {
  target : l.target + l.stride ≡ l.base + l._number * l.stride;
  done : IsSpread l.base l.stride l._number l.fn.ranks l.ranks;
}
