-- Invariants of the loops of `report::tally_of`.
use Rattle.std.proofs.Common.{◌≡◌}
use Rattle.psi_report.specs.Totals.{StandsFor}
use Rattle.psi_reply.specs.Report.{samples_of}
use Rattle.psi_reply.proofs.report.tally_of.Given as goal

abbrev pub invariant-loop-i : goal.invariant-loop-i
invariant-loop-i l = record {
  stands : StandsFor l.tally l.net (samples_of l.net l.seed l.first l.i);
  system : l.plan.system ≡ l.initial.plan.system;
}
