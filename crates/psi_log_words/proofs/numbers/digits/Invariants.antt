-- Invariants of the loops of `numbers::digits`.
use Rattle.std.specs.Prelude.{◌≡◌, take}
use Rattle.std.specs.Str.Parse.{digits_value}
use Rattle.psi_log_words.proofs.NumeralLemmas.{AreDigits}
use Rattle.psi_log_words.proofs.numbers.digits.Given as goal

abbrev pub invariant-loop-count : goal.invariant-loop-count
invariant-loop-count l = record {
  digits : AreDigits l.word l.count;
  value : l.value ≡ digits_value 10 (take l.count l.word);
}
