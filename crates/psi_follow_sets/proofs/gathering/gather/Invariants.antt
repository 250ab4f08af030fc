use Rattle.std.proofs.Common.{◌≡◌, ◌*◌, ◌<◌, ◌≤◌, length, take, slice_index, EachIndex}
use Rattle.psi_state.specs.Ascending.{HaveSame}
use Rattle.psi_follow_sets.specs.Inner.HalvesKept.{halves, words_of_first}
use Rattle.psi_follow_sets.proofs.gathering.gather.Given as goal

abbrev pub invariant-loop-pair : goal.invariant-loop-pair
invariant-loop-pair g l = record {
  members : HaveSame (words_of_first l.count l.out) (halves (take l.pair-index l.list));
  fewer : l.count ≤ 2 * l.pair-index;
  room : length l.out ≡ length l.fn.out;
  slots : length l.seen ≡ length l.fn.seen;
  places : EachIndex l.seen (λ i. slice_index l.seen i < length l.out);
}
