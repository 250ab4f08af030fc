-- The digits that are left give the number that the whole word gives.
use Rattle.std.proofs.Common.{◌≡◌, ◌<◌, ◌^◌, drop}
use Rattle.psi_report_reader.specs.Numbers.{with_digits}
use Rattle.psi_report_reader.proofs.numbers.magnitude.Given as goal

abbrev pub invariant-loop-byte : goal.invariant-loop-byte
invariant-loop-byte l = (with_digits l.value (drop l.byte-index l.word) ≡ with_digits 0 l.word) × (l.value < 10 ^ 37)
