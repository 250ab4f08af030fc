-- The counts before it have 64 bits.
use Rattle.std.proofs.Common.{◌≡◌, take, true}
use Rattle.psi_report_reader.specs.Merging.{counts_fit}
use Rattle.psi_report_reader.proofs.counts.have_64_bits.Given as goal

abbrev pub invariant-loop-count : goal.invariant-loop-count
invariant-loop-count l = counts_fit (take l.count-index l.counts) ≡ true
