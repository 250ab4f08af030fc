-- Invariants of the loops of `levels_of`.
use Rattle.std.proofs.Common.{◌≡◌, vec_len}
use Rattle.psi_index.specs.Inner.LevelsKept.{AreLevels}
use Rattle.psi_index.proofs.level.levels_of.Given as goal

abbrev pub invariant-loop-made : goal.invariant-loop-made
invariant-loop-made l = record {
  len : vec_len l.levels ≡ l.made;
  levels : AreLevels l.values l.levels.items;
}
