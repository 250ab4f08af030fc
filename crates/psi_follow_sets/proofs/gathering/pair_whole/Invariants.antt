use Rattle.std.proofs.Common.{◌≡◌, ◌*◌, length, take}
use Rattle.psi_follow_sets.specs.Inner.HalvesKept.{halves, words_of_first}
use Rattle.psi_follow_sets.proofs.gathering.pair_whole.Given as goal

abbrev pub invariant-loop-at : goal.invariant-loop-at
invariant-loop-at g l = record {
  made : halves (take l.at l.list) ≡ words_of_first (2 * l.at) l.states;
  room : length l.list ≡ length l.fn.list;
}
