-- Invariants of the loops of `put_set`.
use Rattle.std.specs.Prelude.{◌∷◌, ◌+◌, ◌*◌, ◌≤◌, codes, map, take}
use Rattle.psi_log_format.specs.Text.{numbers_text}
use Rattle.psi_log_format.specs.Room.{Puts, spaced_words}
use Rattle.psi_log_format.proofs.regions.put_set.Given as goal

abbrev pub invariant-loop-x : goal.invariant-loop-x
invariant-loop-x l = record {
  text : Puts l.fn.out l.out l.fn.at l.end (spaced_words (codes "set" ∷ map numbers_text (take l.x-index l.states)));
  short : l.end ≤ l.fn.at + 4 + 193 * l.x-index;
}
