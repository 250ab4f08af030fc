-- Invariants of the loops of `words::commas`.
use Rattle.std.specs.Prelude.{◌≡◌, ◌≤◌, take}
use Rattle.std.specs.List.{count_by}
use Rattle.psi_log_words.specs.Words.{is_comma}
use Rattle.psi_log_words.proofs.words.commas.Given as goal

abbrev pub invariant-loop-byte : goal.invariant-loop-byte
invariant-loop-byte l = record {
  value : l.count ≡ count_by is_comma (take l.byte-index l.word);
  few : l.count ≤ l.byte-index;
}
