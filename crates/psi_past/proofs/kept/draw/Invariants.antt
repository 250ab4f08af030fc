-- Invariants of the loops of `draw`.
use Rattle.std.proofs.Common.{◌≡◌, ◌≤◌, max, vec_capacity, length}
use Rattle.psi_past.specs.Filled.{AreWordsFrom}
use Rattle.psi_past.proofs.kept.draw.Given as goal

abbrev pub invariant-loop-place : goal.invariant-loop-place
invariant-loop-place g l = record {
  same : l.past ≡ l.initial.past;
  drawn : AreWordsFrom (g.P.Past.words l.past) 0 l.words.items;
  count : length l.words.items ≡ l.place;
  bound : l.place ≤ max (length l.initial.words.items) l.n;
  capacity : vec_capacity l.words ≡ vec_capacity l.initial.words;
}
