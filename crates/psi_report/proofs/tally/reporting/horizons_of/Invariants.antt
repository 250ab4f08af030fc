-- Invariants of the loops of `reporting::horizons_of`.
use Rattle.std.proofs.Common.{◌≡◌, take}
use Rattle.psi_report.specs.Figures.{counts_of}
use Rattle.psi_report.proofs.tally.reporting.horizons_of.Given as goal

abbrev pub invariant-loop-exponent : goal.invariant-loop-exponent
invariant-loop-exponent l = l.horizons.items ≡ counts_of 0 (take l.exponent l.counts)
